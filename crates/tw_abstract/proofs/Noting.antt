-- The ruleset for noting occurrences.
use Rattle.std.proofs.Common.{◌≡◌, ℕ, ◌+◌, ◌<◌, List, [], ◌∷◌, ◌++◌, append_assoc, length, get_or, drop, refl, sym, ap, ap₂, ◌∙◌, add-one, drop-cons}
use Rattle.std.proofs.lemmas.List.{append-nil}
use Rattle.tw_terms.specs.OpenView.{open_args_of, open_term_of}
use Rattle.tw_terms.specs.declared.open_terms.Open.{Open}
use Rattle.tw_abstract.specs.Occurrences.{Extends, noted, occurrences, spine_occurrences, with_new}

pub noted-append : (ms xs ys : List ℕ) → noted ms (xs ++ ys) ≡ noted (noted ms xs) ys
noted-append ms [] ys = refl
noted-append ms (x ∷ xs) ys = noted-append (with_new ms x) xs ys

-- the next argument
pub argument_noted : (ms found found' : List ℕ) (ts : List Open) (i : ℕ) (x : Open) → i < length ts → x ≡ get_or ts i x → found' ≡ noted found (occurrences (open_term_of x)) → ms ≡ noted found (spine_occurrences (open_args_of (drop i ts))) → ms ≡ noted found' (spine_occurrences (open_args_of (drop (i + 1) ts)))
argument_noted ms found found' ts i x h is f e =
    let rest : spine_occurrences (open_args_of (drop i ts)) ≡ occurrences (open_term_of x) ++ spine_occurrences (open_args_of (drop (i + 1) ts))
    = ap (λ xs. spine_occurrences (open_args_of xs)) (drop-cons ts i x h) ∙ ap₂ (λ y n. occurrences (open_term_of y) ++ spine_occurrences (open_args_of (drop n ts))) (sym is) (sym (add-one i)) in
    e ∙ ap (noted found) rest ∙ noted-append found (occurrences (open_term_of x)) (spine_occurrences (open_args_of (drop (i + 1) ts))) ∙ ap (λ y. noted y (spine_occurrences (open_args_of (drop (i + 1) ts)))) (sym f)

-- nothing that was found is lost
pub extends_same : (ms : List ℕ) → Extends ms ms
extends_same ms = ([], sym (append-nil ms))

pub extends_by : (ms ms' : List ℕ) (n : ℕ) → ms' ≡ ms ++ n ∷ [] → Extends ms ms'
extends_by ms ms' n e = (n ∷ [], e)

pub extends_equal : (ms ms' : List ℕ) → ms' ≡ ms → Extends ms ms'
extends_equal ms ms' e = ([], e ∙ sym (append-nil ms))

pub extends_then : (ms ms' ms'' : List ℕ) → Extends ms ms' → Extends ms' ms'' → Extends ms ms''
extends_then ms ms' ms'' (ns, e) (ks, f) = (ns ++ ks, f ∙ ap (λ x. x ++ ks) e ∙ append_assoc ms ns ks)

-- the next argument, with repeats
pub argument_listed : (ms found found' : List ℕ) (ts : List Open) (i : ℕ) (x : Open) → i < length ts → x ≡ get_or ts i x → found' ≡ found ++ occurrences (open_term_of x) → ms ≡ found ++ spine_occurrences (open_args_of (drop i ts)) → ms ≡ found' ++ spine_occurrences (open_args_of (drop (i + 1) ts))
argument_listed ms found found' ts i x h is f e =
    let rest : spine_occurrences (open_args_of (drop i ts)) ≡ occurrences (open_term_of x) ++ spine_occurrences (open_args_of (drop (i + 1) ts))
    = ap (λ xs. spine_occurrences (open_args_of xs)) (drop-cons ts i x h) ∙ ap₂ (λ y n. occurrences (open_term_of y) ++ spine_occurrences (open_args_of (drop n ts))) (sym is) (sym (add-one i)) in
    e ∙ ap (λ y. found ++ y) rest ∙ sym (append_assoc found (occurrences (open_term_of x)) (spine_occurrences (open_args_of (drop (i + 1) ts)))) ∙ ap (λ y. y ++ spine_occurrences (open_args_of (drop (i + 1) ts))) (sym f)

pub listed_in_turn : (ms ms' ms'' xs ys : List ℕ) → ms' ≡ ms ++ xs → ms'' ≡ ms' ++ ys → ms'' ≡ ms ++ (xs ++ ys)
listed_in_turn ms ms' ms'' xs ys e f = f ∙ ap (λ y. y ++ ys) e ∙ append_assoc ms xs ys

-- Metavariables put in for quantifiers, seen from under binders.
use Rattle.std.proofs.Common.{◌≡◌, ℕ, zero, suc, ◌+◌, ◌-◌, ◌<◌, ◌≤◌, ◌⊎◌, inl, inr, List, [], ◌∷◌, ◌++◌, length, map, slice_index_or, refl, sym, ap, ap₂, ◌∙◌, arith}
use mathlib.Core.Path.{fun_ext}
use Rattle.lf.specs.AtOnce.{shift_by}
use Rattle.lf.specs.Eta.{append}
use Rattle.lf.specs.Syntax.{Head, LfType, Spine, Term, app, constant, lambda, metavariable, pi, rename_head, rename_spine, root, variable, nil}
use Rattle.lf.proofs.AtOnce.{shift_spine_zero}
use Rattle.lf.proofs.Renaming.{renamings_compose_spine}
use Rattle.lf_search.specs.AppliedHeads.{AppliedHead, bare, on_arguments, one_by_one, rename_applied, spine_with_applied, taken_heads, type_with_applied, under_applied, with_applied, with_newest}
use Rattle.tw_terms.specs.OpenView.{open_args_of, open_term_of}
use Rattle.tw_terms.specs.View.{args_of, spine_from, term_of}
use Rattle.tw_terms.specs.declared.canonical.MetaId.{MetaId}
use Rattle.tw_terms.specs.declared.canonical.Term.{Term as ClosedTerm}
use Rattle.tw_terms.specs.declared.open_terms.Open.{Open}
use Rattle.tw_terms.proofs.Args.{types_and_skeletons}
use Rattle.tw_terms.proofs.OpenArgs.{open_types}
use Rattle.tw_prune.proofs.Walking.{append-nil}
use Rattle.tw_search.specs.Applied.{IsStart, applied_inside, taken_at}

abbrev made : Head → Spine → AppliedHead
made h S = record { head = h; arguments = S }

-- Which variable has which metavariable.
past_all : (L : Spine) (ms : List ℕ) (p : ℕ → AppliedHead) (i : ℕ) → length ms ≤ i → one_by_one L ms p i ≡ p (i - length ms)
past_all L [] p i h = let e : i ≡ i - 0 = omega arith in ap p e
past_all L (m ∷ ms) p i h =
    let e : i - length ms ≡ suc (i - suc (length ms)) = omega (arith, h) in
    past_all L ms (with_newest (on_arguments L m) p) i (omega (arith, h)) ∙ ap (with_newest (on_arguments L m) p) e

last_or_before : (i n : ℕ) → i < suc n → (i < n) ⊎ (i ≡ n)
last_or_before zero zero h = inr refl
last_or_before zero (suc n) h = inl (omega arith)
last_or_before (suc i) zero h = absurd (omega (arith, h))
last_or_before (suc i) (suc n) h = go (last_or_before i n (omega (arith, h)))
  where
    go : (i < n) ⊎ (i ≡ n) → (suc i < suc n) ⊎ (suc i ≡ suc n)
    go (inl k) = inl (omega (arith, k))
    go (inr e) = inr (ap suc e)

count_numbers : (ms : List MetaId) → length (map (λ (m : MetaId). m.0) ms) ≡ length ms
count_numbers [] = refl
count_numbers (m ∷ ms) = ap suc (count_numbers ms)

among : (L : Spine) (ms : List MetaId) (d : MetaId) (p : ℕ → AppliedHead) (i : ℕ) → i < length ms → one_by_one L (map (λ (m : MetaId). m.0) ms) p i ≡ on_arguments L (slice_index_or ms (length ms - 1 - i) d).0
among L [] d p i h = absurd (omega (arith, h))
among L (m ∷ ms) d p i h = go (among L ms d (with_newest (on_arguments L m.0) p) i) (last_or_before i (length ms) h)
  where
    go : (i < length ms → one_by_one L (map (λ (k : MetaId). k.0) ms) (with_newest (on_arguments L m.0) p) i ≡ on_arguments L (slice_index_or ms (length ms - 1 - i) d).0) → (i < length ms) ⊎ (i ≡ length ms) → one_by_one L (map (λ (k : MetaId). k.0) (m ∷ ms)) p i ≡ on_arguments L (slice_index_or (m ∷ ms) (length (m ∷ ms) - 1 - i) d).0
    go earlier (inl k) =
        let e : suc (length ms - 1 - i) ≡ length (m ∷ ms) - 1 - i = omega (arith, k) in
        earlier k ∙ ap (λ j. on_arguments L (slice_index_or (m ∷ ms) j d).0) e
    go earlier (inr e) =
        let n : length (map (λ (k : MetaId). k.0) ms) ≡ length ms = count_numbers ms in
        let z : i - length (map (λ (k : MetaId). k.0) ms) ≡ zero = omega (arith, e, n) in
        let y : zero ≡ length (m ∷ ms) - 1 - i = omega (arith, e) in
        past_all L (map (λ (k : MetaId). k.0) ms) (with_newest (on_arguments L m.0) p) i (omega (arith, e, n)) ∙ ap (with_newest (on_arguments L m.0) p) z ∙ ap (λ j. on_arguments L (slice_index_or (m ∷ ms) j d).0) y

-- Under binders.
inside_bound : (b : ℕ) (p : ℕ → AppliedHead) (i : ℕ) → i < b → applied_inside b p i ≡ bare i
inside_bound zero p i l = absurd (omega (arith, l))
inside_bound (suc b) p zero l = refl
inside_bound (suc b) p (suc i) l = ap (rename_applied suc) (inside_bound b p i (omega (arith, l)))

one_after_shift : (b i : ℕ) → suc (shift_by b i) ≡ shift_by (suc b) i
one_after_shift b i = omega arith

head_by_none : (h : Head) → h ≡ rename_head (shift_by 0) h
head_by_none (constant c) = refl
head_by_none (metavariable m) = refl
head_by_none (variable i) = let e : i ≡ shift_by 0 i = omega arith in ap variable e

head_by_one_more : (b : ℕ) (h : Head) → rename_head suc (rename_head (shift_by b) h) ≡ rename_head (shift_by (suc b)) h
head_by_one_more b (constant c) = refl
head_by_one_more b (metavariable m) = refl
head_by_one_more b (variable i) = ap variable (one_after_shift b i)

outside_of : (b : ℕ) (p : ℕ → AppliedHead) (j : ℕ) → applied_inside b p (b + j) ≡ rename_applied (shift_by b) (p j)
outside_of zero p j =
    let e : zero + j ≡ j = omega arith in
    ap p e ∙ ap₂ made (head_by_none (p j).head) (sym (shift_spine_zero (p j).arguments))
outside_of (suc b) p j =
    let e : suc b + j ≡ suc (b + j) = omega arith in
    ap (under_applied (applied_inside b p)) e ∙ ap (rename_applied suc) (outside_of b p j)
    ∙ ap₂ made (head_by_one_more b (p j).head) (renamings_compose_spine suc (shift_by b) (p j).arguments ∙ ap (λ ρ. rename_spine ρ (p j).arguments) (fun_ext (one_after_shift b)))

pub within : (L : Spine) (ms : List MetaId) (b v : ℕ) → v < b → bare v ≡ taken_at L ms b v
unfolding taken_at
within L ms b v h = sym (inside_bound b (taken_heads L (map (λ (m : MetaId). m.0) ms)) v h)

pub has_metavariable : (L : Spine) (ms : List MetaId) (d : MetaId) (b v : ℕ) → b ≤ v → v - b < length ms → made (metavariable (slice_index_or ms (length ms - 1 - (v - b)) d).0) (rename_spine (shift_by b) L) ≡ taken_at L ms b v
unfolding taken_at taken_heads
has_metavariable L ms d b v l h =
    let e : b + (v - b) ≡ v = omega (arith, l) in
    let p : ℕ → AppliedHead = taken_heads L (map (λ (m : MetaId). m.0) ms) in
    sym (ap (applied_inside b p) (sym e) ∙ outside_of b p (v - b) ∙ ap (rename_applied (shift_by b)) (among L ms d bare (v - b) h))

pub comes_nearer : (L : Spine) (ms : List MetaId) (b v : ℕ) → b ≤ v → length ms ≤ v - b → bare (v - length ms) ≡ taken_at L ms b v
unfolding taken_at taken_heads
comes_nearer L ms b v l h =
    let e : b + (v - b) ≡ v = omega (arith, l) in
    let n : length (map (λ (m : MetaId). m.0) ms) ≡ length ms = count_numbers ms in
    let i : shift_by b (v - b - length (map (λ (m : MetaId). m.0) ms)) ≡ v - length ms = omega (arith, l, h, n) in
    let p : ℕ → AppliedHead = taken_heads L (map (λ (m : MetaId). m.0) ms) in
    sym (ap (applied_inside b p) (sym e) ∙ outside_of b p (v - b) ∙ ap (rename_applied (shift_by b)) (past_all L (map (λ (m : MetaId). m.0) ms) bare (v - b) (omega (arith, h, n))) ∙ ap bare i)

-- a head on its arguments stands for a variable
pub starts_with : (x : AppliedHead) (p : ℕ → AppliedHead) (i : ℕ) (h : Head) (S : Spine) → x ≡ p i → h ≡ x.head → S ≡ x.arguments → IsStart p (variable i) h S
starts_with x p i h S e a b = (a ∙ ap (λ (y : AppliedHead). y.head) e, b ∙ ap (λ (y : AppliedHead). y.arguments) e)

-- What stands for parts.
pub applied_under_lambda : (L : Spine) (ms : List MetaId) (b n : ℕ) (T M B R : Term) → n ≡ suc b → T ≡ lambda M → B ≡ with_applied (taken_at L ms n) M → R ≡ lambda B → R ≡ with_applied (taken_at L ms b) T
unfolding taken_at
applied_under_lambda L ms b n T M B R e t i r =
    let p : ℕ → AppliedHead = taken_heads L (map (λ (m : MetaId). m.0) ms) in
    r ∙ ap lambda (i ∙ ap (λ k. with_applied (applied_inside k p) M) e) ∙ sym (ap (with_applied (applied_inside b p)) t)

pub applied_in_product : (L : Spine) (ms : List MetaId) (b n : ℕ) (T A B X Y R : LfType) → n ≡ suc b → T ≡ pi A B → X ≡ type_with_applied (taken_at L ms b) A → Y ≡ type_with_applied (taken_at L ms n) B → R ≡ pi X Y → R ≡ type_with_applied (taken_at L ms b) T
unfolding taken_at
applied_in_product L ms b n T A B X Y R e t x y r =
    let p : ℕ → AppliedHead = taken_heads L (map (λ (m : MetaId). m.0) ms) in
    r ∙ ap₂ pi x (y ∙ ap (λ k. type_with_applied (applied_inside k p) B) e) ∙ sym (ap (type_with_applied (applied_inside b p)) t)

applied_root : (p : ℕ → AppliedHead) (h g : Head) (P S : Spine) → IsStart p h g P → root g (append P (spine_with_applied p S)) ≡ with_applied p (root h S)
applied_root p (variable i) g P S (e, f) = ap₂ (λ h Q. root h (append Q (spine_with_applied p S))) e f
applied_root p (constant c) g P S (e, f) = ap₂ (λ h Q. root h (append Q (spine_with_applied p S))) e f
applied_root p (metavariable m) g P S (e, f) = ap₂ (λ h Q. root h (append Q (spine_with_applied p S))) e f

pub applied_at_root : (p : ℕ → AppliedHead) (h g : Head) (P S U V : Spine) (T R : Term) → T ≡ root h S → IsStart p h g P → U ≡ spine_with_applied p S → V ≡ append P U → R ≡ root g V → R ≡ with_applied p T
applied_at_root p h g P S U V T R t i u v r = r ∙ ap (root g) (v ∙ ap (append P) u) ∙ applied_root p h g P S i ∙ sym (ap (with_applied p) t)

-- a head alone
pub applied_to_nothing : (p : ℕ → AppliedHead) (h g : Head) (P S : Spine) (T R : Term) → T ≡ root h S → S ≡ nil → IsStart p h g P → R ≡ root g P → R ≡ with_applied p T
applied_to_nothing p h g P S T R t e i r = applied_at_root p h g P S nil P T R t i (sym (ap (spine_with_applied p) e)) (sym (append-nil P)) r

-- Arguments.
pub spine_with_applied-args_of : (p : ℕ → AppliedHead) (ts : List Open) → spine_with_applied p (open_args_of ts) ≡ spine_from (map (λ t. with_applied p (open_term_of t)) ts)
spine_with_applied-args_of p [] = refl
spine_with_applied-args_of p (t ∷ ts) = ap (app (with_applied p (open_term_of t))) (spine_with_applied-args_of p ts)

pub spine_with_applied-closed_args_of : (p : ℕ → AppliedHead) (ts : List ClosedTerm) → spine_with_applied p (args_of ts) ≡ spine_from (map (λ t. with_applied p (term_of t)) ts)
spine_with_applied-closed_args_of p [] = refl
spine_with_applied-closed_args_of p (t ∷ ts) = ap (app (with_applied p (term_of t))) (spine_with_applied-closed_args_of p ts)

pub args_joined : (ts us : List Open) → open_args_of (ts ++ us) ≡ append (open_args_of ts) (open_args_of us)
args_joined [] us = refl
args_joined (t ∷ ts) us = ap (app (open_term_of t)) (args_joined ts us)

pub ruleset applying = (types_and_skeletons, open_types, spine_with_applied-args_of, spine_with_applied-closed_args_of)

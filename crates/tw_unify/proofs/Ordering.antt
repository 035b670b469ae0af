-- Orders of metavariables that grow, and what is numbered by them.
use Rattle.std.proofs.Common.{◌≡◌, ℕ, zero, suc, ◌<◌, ◌+◌, List, [], ◌∷◌, ◌++◌, length, take, drop, get_or, append_assoc, length-append, Some, inl, inr, refl, sym, ap, ap₂, ◌∙◌, subst, arith}
use Rattle.std.specs.Prelude.{slice_get, unwrap_or}
use Rattle.lf.specs.Eta.{add_last}
use Rattle.lf.specs.Subordination.{Member}
use Rattle.lf.specs.Syntax.{Head, LfType, Spine, Term, app, atom, constant, lambda, metavariable, nil, pi, root, variable}
use Rattle.lf_unification.specs.OpenTyping.{MetavariablesIn, MetavariablesInSpine, MetavariablesInType}
use Rattle.tw_terms.specs.OpenView.{open_args_of, open_term_of}
use Rattle.tw_terms.specs.declared.open_terms.Open.{Open}
use Rattle.tw_unify.specs.Showing.{AllAmong, Grows, IsNumbered, IsNumberedHead, IsNumberedSpine, IsNumberedType, NeedsHead, NeedsSpine, NeedsTerm, NeedsType, at_place, numbered, numbered_spine, numbered_type}
use Rattle.tw_putting.specs.Whole.{AreDistinct}
use Rattle.tw_unify.proofs.Reaching.{member_of_both}

append_nothing : (ys : List ℕ) → ys ++ [] ≡ ys
append_nothing [] = refl
append_nothing (y ∷ ys) = ap (λ zs. y ∷ zs) (append_nothing ys)

pub grows_not : (N : List ℕ → Type 0) (xs : List ℕ) → Grows N xs xs
grows_not N xs = record { more = []; is = sym (append_nothing xs); distinct = λ d. d; within = λ vs a n. a }

pub grows_then : (N P Q : List ℕ → Type 0) (xs ys zs : List ℕ) → ((vs : List ℕ) → Q vs → N vs) → ((vs : List ℕ) → Q vs → P vs) → Grows N xs ys → Grows P ys zs → Grows Q xs zs
grows_then N P Q xs ys zs f k g h = record {
  more = g.more ++ h.more;
  is = h.is ∙ ap (λ us. us ++ h.more) g.is ∙ append_assoc xs g.more h.more;
  distinct = λ d. h.distinct (g.distinct d);
  within = λ vs a q. h.within vs (g.within vs a (f vs q)) (k vs q);
}

pub grows_for : (N Q : List ℕ → Type 0) (xs ys : List ℕ) → ((vs : List ℕ) → Q vs → N vs) → Grows N xs ys → Grows Q xs ys
grows_for N Q xs ys f g = record { more = g.more; is = g.is; distinct = g.distinct; within = λ vs a q. g.within vs a (f vs q) }

front_here : (xs ys : List ℕ) (k : ℕ) → k < length xs → slice_get (xs ++ ys) k ≡ slice_get xs k
front_here [] ys k h = absurd (omega arith)
front_here (x ∷ xs) ys zero h = refl
front_here (x ∷ xs) ys (suc k) h = front_here xs ys k (omega arith)

distinct_more : (xs : List ℕ) (m : ℕ) → (Member m xs → ⊥) → AreDistinct xs → AreDistinct (xs ++ m ∷ [])
distinct_more [] m n d = (λ h. h, tt)
distinct_more (x ∷ xs) m n (f, d) = (λ h. elim (member_of_both x xs (m ∷ []) h) [ inl g ↦ f g | inr (inl e) ↦ n (inl (sym e)) | inr (inr z) ↦ z ], distinct_more xs m (λ h. n (inr h)) d)

among_more : (vs xs : List ℕ) (m : ℕ) → AllAmong vs xs → Member m vs → AllAmong vs (xs ++ m ∷ [])
among_more vs [] m a h = (h, tt)
among_more vs (x ∷ xs) m (i, a) h = (i, among_more vs xs m a h)

-- a new one comes behind the others
pub grows_by : (xs ys : List ℕ) (m : ℕ) → (Member m xs → ⊥) → ys ≡ xs ++ m ∷ [] → Grows (λ vs. Member m vs) xs ys
grows_by xs ys m n e = record {
  more = m ∷ [];
  is = e;
  distinct = λ d. subst AreDistinct (sym e) (distinct_more xs m n d);
  within = λ vs a h. subst (AllAmong vs) (sym e) (among_more vs xs m a h);
}

behind : (xs : List ℕ) (m : ℕ) → slice_get (xs ++ m ∷ []) (length xs) ≡ Some m
behind [] m = refl
behind (x ∷ xs) m = behind xs m

pub last_place : (xs ys : List ℕ) (m : ℕ) → ys ≡ xs ++ m ∷ [] → slice_get ys (length xs) ≡ Some m
last_place xs ys m e = ap (λ zs. slice_get zs (length xs)) e ∙ behind xs m

module _ (N : List ℕ → Type 0) (xs ys : List ℕ) (g : Grows N xs ys) where
  longer : (k : ℕ) → k < length xs → k < length ys
  longer k h = let l : length ys ≡ length xs + length g.more = ap length g.is ∙ length-append xs g.more in omega arith

  same_place : (k : ℕ) → k < length xs → at_place ys k ≡ at_place xs k
  same_place k h = ap (λ o. unwrap_or o 0) (ap (λ zs. slice_get zs k) g.is ∙ front_here xs g.more k h)

  mutual
    same_numbers : (M : Term) → MetavariablesIn (λ k. k < length xs) M → (numbered (at_place ys) M ≡ numbered (at_place xs) M) × MetavariablesIn (λ k. k < length ys) M
    same_numbers (lambda M) b = let (e, c) = same_numbers M b in (ap lambda e, c)
    same_numbers (root (constant k) S) b = let (e, c) = same_numbers_spine S b in (ap (root (constant k)) e, c)
    same_numbers (root (variable k) S) b = let (e, c) = same_numbers_spine S b in (ap (root (variable k)) e, c)
    same_numbers (root (metavariable k) S) (h, b) = let (e, c) = same_numbers_spine S b in (ap₂ (λ j T. root (metavariable j) T) (same_place k h) e, (longer k h, c))

    same_numbers_spine : (S : Spine) → MetavariablesInSpine (λ k. k < length xs) S → (numbered_spine (at_place ys) S ≡ numbered_spine (at_place xs) S) × MetavariablesInSpine (λ k. k < length ys) S
    same_numbers_spine nil b = (refl, tt)
    same_numbers_spine (app M S) (a, b) = let (e, c) = same_numbers M a in let (f, d) = same_numbers_spine S b in (ap₂ app e f, (c, d))

  same_numbers_type : (A : LfType) → MetavariablesInType (λ k. k < length xs) A → (numbered_type (at_place ys) A ≡ numbered_type (at_place xs) A) × MetavariablesInType (λ k. k < length ys) A
  same_numbers_type (pi A B) (a, b) = let (e, c) = same_numbers_type A a in let (f, d) = same_numbers_type B b in (ap₂ pi e f, (c, d))
  same_numbers_type (atom k S) b = let (e, c) = same_numbers_spine S b in (ap (atom k) e, c)

  -- what is numbered stays so
  pub term_stays : (M N : Term) → IsNumbered xs M N → IsNumbered ys M N
  term_stays M N (e, b) = let (f, c) = same_numbers N b in (f ∙ e, c)

  pub spine_stays : (S T : Spine) → IsNumberedSpine xs S T → IsNumberedSpine ys S T
  spine_stays S T (e, b) = let (f, c) = same_numbers_spine T b in (f ∙ e, c)

  pub type_stays : (A B : LfType) → IsNumberedType xs A B → IsNumberedType ys A B
  type_stays A B (e, b) = let (f, c) = same_numbers_type B b in (f ∙ e, c)

  pub head_stays : (h k : Head) → IsNumberedHead xs h k → IsNumberedHead ys h k
  head_stays h (constant c) e = e
  head_stays h (variable i) e = e
  head_stays h (metavariable m) (e, l) = (e ∙ ap metavariable (sym (same_place m l)), longer m l)

-- a metavariable at its place
pub place_within : (xs : List ℕ) (k m : ℕ) → slice_get xs k ≡ Some m → k < length xs
place_within [] k m e = absurd cc
place_within (x ∷ xs) zero m e = omega arith
place_within (x ∷ xs) (suc k) m e = let h = place_within xs k m e in omega arith

pub meta_numbered : (xs : List ℕ) (h k : Head) (m j : ℕ) → h ≡ metavariable m → k ≡ metavariable j → slice_get xs j ≡ Some m → IsNumberedHead xs h k
meta_numbered xs h k m j e f p = subst (IsNumberedHead xs h) (sym f) (e ∙ ap metavariable (sym (ap (λ o. unwrap_or o 0) p)), place_within xs j m p)

pub rigid_numbered : (xs : List ℕ) (h k : Head) → ((m : ℕ) → k ≡ metavariable m → ⊥) → h ≡ k → IsNumberedHead xs h k
rigid_numbered xs h (constant c) n e = e
rigid_numbered xs h (variable i) n e = e
rigid_numbered xs h (metavariable m) n e = absurd (n m refl)

-- parts
pub lambda_numbered : (xs : List ℕ) (M N : Term) → IsNumbered xs M N → IsNumbered xs (lambda M) (lambda N)
lambda_numbered xs M N (e, b) = (ap lambda e, b)

pub root_numbered : (xs : List ℕ) (h k : Head) (S T : Spine) → IsNumberedHead xs h k → IsNumberedSpine xs S T → IsNumbered xs (root h S) (root k T)
root_numbered xs h (constant c) S T e (f, b) = (ap₂ root (sym e) f, b)
root_numbered xs h (variable i) S T e (f, b) = (ap₂ root (sym e) f, b)
root_numbered xs h (metavariable m) S T (e, l) (f, b) = (ap₂ root (sym e) f, (l, b))

pub pi_numbered : (xs : List ℕ) (A B A' B' : LfType) → IsNumberedType xs A A' → IsNumberedType xs B B' → IsNumberedType xs (pi A B) (pi A' B')
pi_numbered xs A B A' B' (e, b) (f, c) = (ap₂ pi e f, (b, c))

pub atom_numbered : (xs : List ℕ) (a : ℕ) (S T : Spine) → IsNumberedSpine xs S T → IsNumberedType xs (atom a S) (atom a T)
atom_numbered xs a S T (e, b) = (ap (atom a) e, b)

last_argument : (ts : List Open) (t : Open) → open_args_of (ts ++ t ∷ []) ≡ add_last (open_args_of ts) (open_term_of t)
last_argument [] t = refl
last_argument (u ∷ ts) t = ap (app (open_term_of u)) (last_argument ts t)

last_numbered : (f : ℕ → ℕ) (S : Spine) (M : Term) → numbered_spine f (add_last S M) ≡ add_last (numbered_spine f S) (numbered f M)
last_numbered f nil M = refl
last_numbered f (app N S) M = ap (app (numbered f N)) (last_numbered f S M)

last_below : (V : ℕ → Type 0) (S : Spine) (M : Term) → MetavariablesInSpine V S → MetavariablesIn V M → MetavariablesInSpine V (add_last S M)
last_below V nil M s m = (m, tt)
last_below V (app N S) M (n, s) m = (n, last_below V S M s m)

-- one argument more
pub argument_numbered : (xs : List ℕ) (ts us ts' us' : List Open) (t u : Open) → ts' ≡ ts ++ t ∷ [] → us' ≡ us ++ u ∷ [] → IsNumberedSpine xs (open_args_of ts) (open_args_of us) → IsNumbered xs (open_term_of t) (open_term_of u) → IsNumberedSpine xs (open_args_of ts') (open_args_of us')
argument_numbered xs ts us ts' us' t u e f (g, b) (h, c) =
    let left : open_args_of ts' ≡ add_last (open_args_of ts) (open_term_of t) = ap open_args_of e ∙ last_argument ts t in
    let right : open_args_of us' ≡ add_last (open_args_of us) (open_term_of u) = ap open_args_of f ∙ last_argument us u in
    subst (λ T. IsNumberedSpine xs (open_args_of ts') T) (sym right)
    (last_numbered (at_place xs) (open_args_of us) (open_term_of u) ∙ ap₂ add_last g h ∙ sym left, last_below (λ k. k < length xs) (open_args_of us) (open_term_of u) b c)

-- a root
pub root_done : (zs : List ℕ) (M N : Term) (h k : Head) (S T : Spine) → M ≡ root h S → N ≡ root k T → IsNumberedHead zs h k → IsNumberedSpine zs S T → IsNumbered zs M N
root_done zs M N h k S T e f a b = subst (λ M. IsNumbered zs M N) (sym e) (subst (IsNumbered zs (root h S)) (sym f) (root_numbered zs h k S T a b))

needs_head : (h : Head) (S : Spine) (vs : List ℕ) → NeedsTerm (root h S) vs → NeedsHead h vs
needs_head (constant c) S vs n = tt
needs_head (variable i) S vs n = tt
needs_head (metavariable m) S vs n = n.0

needs_spine : (h : Head) (S : Spine) (vs : List ℕ) → NeedsTerm (root h S) vs → NeedsSpine S vs
needs_spine (constant c) S vs n = n
needs_spine (variable i) S vs n = n
needs_spine (metavariable m) S vs n = n.1

pub root_grown : (xs ys zs : List ℕ) (M : Term) (h : Head) (S : Spine) → M ≡ root h S → Grows (NeedsHead h) xs ys → Grows (NeedsSpine S) ys zs → Grows (NeedsTerm M) xs zs
root_grown xs ys zs M h S e g k = subst (λ M. Grows (NeedsTerm M) xs zs) (sym e) (grows_then (NeedsHead h) (NeedsSpine S) (NeedsTerm (root h S)) xs ys zs (needs_head h S) (needs_spine h S) g k)

-- a type of functions
pub pi_done : (zs : List ℕ) (A C : LfType) (X Y X' Y' : LfType) → A ≡ pi X Y → C ≡ pi X' Y' → IsNumberedType zs X X' → IsNumberedType zs Y Y' → IsNumberedType zs A C
pi_done zs A C X Y X' Y' e f a b = subst (λ A. IsNumberedType zs A C) (sym e) (subst (IsNumberedType zs (pi X Y)) (sym f) (pi_numbered zs X Y X' Y' a b))

pub pi_grown : (xs ys zs : List ℕ) (A X Y : LfType) → A ≡ pi X Y → Grows (NeedsType X) xs ys → Grows (NeedsType Y) ys zs → Grows (NeedsType A) xs zs
pi_grown xs ys zs A X Y e g k = subst (λ A. Grows (NeedsType A) xs zs) (sym e) (grows_then (NeedsType X) (NeedsType Y) (NeedsType (pi X Y)) xs ys zs (λ vs n. n.0) (λ vs n. n.1) g k)

-- what comes next in a list
pub take_get : {A : Type 0} (xs : List A) (i : ℕ) (x : A) → i < length xs → x ≡ get_or xs i x → take (suc i) xs ≡ take i xs ++ x ∷ []
take_get [] i x h e = absurd (omega arith)
take_get (y ∷ xs) zero x h e = ap (λ z. z ∷ []) (sym e)
take_get (y ∷ xs) (suc i) x h e = ap (λ zs. y ∷ zs) (take_get xs i x (omega arith) e)

pub drop_get : {A : Type 0} (xs : List A) (i : ℕ) (x : A) → i < length xs → x ≡ get_or xs i x → drop i xs ≡ x ∷ drop (suc i) xs
drop_get [] i x h e = absurd (omega arith)
drop_get (y ∷ xs) zero x h e = ap (λ z. z ∷ xs) (sym e)
drop_get (y ∷ xs) (suc i) x h e = drop_get xs i x (omega arith) e

take_next_one : {A : Type 0} (xs : List A) (i : ℕ) (x : A) → i < length xs → x ≡ get_or xs i x → take (i + 1) xs ≡ take i xs ++ x ∷ []
take_next_one xs i x h e = ap (λ j. take j xs) (let q : i + 1 ≡ suc i = omega arith in q) ∙ take_get xs i x h e

-- the next argument
pub argument_next : (N : List ℕ → Type 0) (ys zs : List ℕ) (items : List Open) (i : ℕ) (x : Open) (ts us : List Open) (u : Open) → Grows N ys zs → i < length items → x ≡ get_or items i x → us ≡ ts ++ u ∷ [] → IsNumberedSpine ys (open_args_of (take i items)) (open_args_of ts) → IsNumbered zs (open_term_of x) (open_term_of u) → IsNumberedSpine zs (open_args_of (take (i + 1) items)) (open_args_of us)
argument_next N ys zs items i x ts us u g h e f a b =
    argument_numbered zs (take i items) ts (take (i + 1) items) us x u (take_next_one items i x h e) f (spine_stays N ys zs g (open_args_of (take i items)) (open_args_of ts) a) b

needs_last : (vs : List ℕ) (ts : List Open) (x : Open) → NeedsSpine (open_args_of (ts ++ x ∷ [])) vs → NeedsSpine (open_args_of ts) vs × NeedsTerm (open_term_of x) vs
needs_last vs [] x n = (tt, n.0)
needs_last vs (t ∷ ts) x (a, n) = let (b, c) = needs_last vs ts x n in ((a, b), c)

pub argument_grown : (xs ys zs : List ℕ) (items : List Open) (i : ℕ) (x : Open) → i < length items → x ≡ get_or items i x → Grows (NeedsSpine (open_args_of (take i items))) xs ys → Grows (NeedsTerm (open_term_of x)) ys zs → Grows (NeedsSpine (open_args_of (take (i + 1) items))) xs zs
argument_grown xs ys zs items i x h e g k =
    subst (λ ts. Grows (NeedsSpine (open_args_of ts)) xs zs) (sym (take_next_one items i x h e))
    (grows_then (NeedsSpine (open_args_of (take i items))) (NeedsTerm (open_term_of x)) (NeedsSpine (open_args_of (take i items ++ x ∷ []))) xs ys zs (λ vs n. (needs_last vs (take i items) x n).0) (λ vs n. (needs_last vs (take i items) x n).1) g k)

take_element : (xs : List ℕ) (i n : ℕ) → i < length xs → take (suc i) xs ≡ take i xs ++ get_or xs i n ∷ []
take_element [] i n h = absurd (omega arith)
take_element (y ∷ xs) zero n h = refl
take_element (y ∷ xs) (suc i) n h = ap (λ zs. y ∷ zs) (take_element xs i n (omega arith))

-- none of those so far, nor the next
pub not_next : (xs : List ℕ) (i m n : ℕ) → i < length xs → (get_or xs i n ≡ m → ⊥) → (Member m (take i xs) → ⊥) → Member m (take (i + 1) xs) → ⊥
not_next xs i m n h d f a = elim (member_of_both m (take i xs) (get_or xs i n ∷ []) (subst (Member m) (ap (λ j. take j xs) (let q : i + 1 ≡ suc i = omega arith in q) ∙ take_element xs i n h) a)) [ inl b ↦ f b | inr (inl q) ↦ d (sym q) | inr (inr z) ↦ z ]

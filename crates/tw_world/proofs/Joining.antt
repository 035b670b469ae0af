-- Contexts as types: a block as one type, and whether its variables are strict.
use Rattle.std.proofs.Common.{◌≡◌, ◌↔◌, ℕ, zero, suc, ◌+◌, ◌<◌, ◌≤◌, List, [], ◌∷◌, length, take, drop, refl, sym, ap, ap₂, ◌∙◌, subst, arith, inl, inr, IsTrue}
use Rattle.std.specs.Prelude.{Bool, true, false, Option, Some, None, ◌⊎◌, cond, is_some, slice_get}
use Rattle.lf.specs.Syntax.{constant, variable, metavariable, Term, Spine, lambda, root, nil, app, LfType, pi, atom, weaken}
use Rattle.lf.specs.Substitution.{Image, keep, substitute_type, reduce}
use Rattle.lf.specs.Subordination.{Block, IsTypedBlock}
use Rattle.lf.specs.Typing.{Signature, TypeAt, IsType, IsContext, IsSignature}
use Rattle.lf.specs.Variables.{nothing, hide, under, onto, same_number}
use Rattle.lf.specs.Worlds.{instance, lift_over}
use Rattle.lf.proofs.Closed.{closed_type_renamed, closed_type_substituted}
use Rattle.lf.proofs.Weakening.{renaming_keeps_types}
use Rattle.lf_checks.specs.Clause.{among}
use Rattle.lf_checks.specs.Strict.{pattern_arguments, strict, strict_spine, strict_type}
use Rattle.lf_checks.specs.Tests.{both, either}
use Rattle.lf_checks.specs.Worlded.{IsStrictBlock, past_types}
use Rattle.lf_unification.specs.Offering.{pi_over}
use Rattle.tw_clause.specs.Patterns.{heads, newest}
use Rattle.tw_world.specs.Finding.{first_of, inverted, standing, value_in, value_in_spine, value_in_type}
use Rattle.tw_world.specs.Instances.{AreValues, as_type, IsInstance, Reaches, Settles}
use Rattle.tw_world.proofs.Found.{hidden_nothing}
use Rattle.tw_world.proofs.Instances.{older_is_context, over_is_type, pis_substituted}
use Rattle.std.specs.Prelude.{option_map}
use Rattle.tw_terms.specs.View.{term_of}
use Rattle.tw_terms.specs.declared.canonical.Term.{Term as RustTerm}
use mathlib.Core.Path.{fun_ext}

-- A type finds a value in itself exactly where the variable is strict in it.
some_first : (v w : Option Term) → is_some (first_of v w) ≡ either (is_some v) (is_some w)
some_first (Some v) w = refl
some_first None w = refl

some_cond : (b : Bool) (v : Option Term) → is_some (cond b v None) ≡ both b (is_some v)
some_cond true v = refl
some_cond false v = refl

some_standing : (b : Bool) (T : Term) → is_some (cond b (Some T) None) ≡ b
some_standing true T = refl
some_standing false T = refl

either_none : (a : Bool) → either a false ≡ a
either_none true = refl
either_none false = refl

mutual
  self_in : (n x : ℕ) (M : Term) → is_some (value_in n x M M) ≡ strict (newest n) nothing x M
  self_in n x (lambda M) = self_in (suc n) (suc x) M ∙ ap (λ F. strict (newest (suc n)) F (suc x) M) (sym hidden_nothing)
  self_in n x (root (constant c) S) = self_in_spine n x S
  self_in n x (root (metavariable m) S) = refl
  self_in n x (root (variable j) S) =
      some_first (cond (same_number j x) (standing n S (root (variable j) S)) None) (cond (newest n j) (value_in_spine n x S S) None)
      ∙ ap₂ either (some_cond (same_number j x) (standing n S (root (variable j) S)) ∙ ap (both (same_number j x)) (some_standing (pattern_arguments (newest n) [] S) (inverted n (heads S) (root (variable j) S)))) (some_cond (newest n j) (value_in_spine n x S S) ∙ ap₂ both (sym (either_none (newest n j))) (self_in_spine n x S))

  self_in_spine : (n x : ℕ) (S : Spine) → is_some (value_in_spine n x S S) ≡ strict_spine (newest n) nothing x S
  self_in_spine n x nil = refl
  self_in_spine n x (app M S) = some_first (value_in n x M M) (value_in_spine n x S S) ∙ ap₂ either (self_in n x M) (self_in_spine n x S)

self_in_type : (n x : ℕ) (A : LfType) → is_some (value_in_type n x A A) ≡ strict_type (newest n) nothing x A
self_in_type n x (atom a S) = self_in_spine n x S
self_in_type n x (pi A B) = some_first (value_in_type n x A A) (value_in_type (suc n) (suc x) B B) ∙ ap₂ either (self_in_type n x A) (self_in_type (suc n) (suc x) B ∙ ap (λ F. strict_type (newest (suc n)) F (suc x) B) (sym hidden_nothing))

pub strict_found : (x : ℕ) (A : LfType) (b : Bool) → is_some (value_in_type 0 x A A) ≡ b → strict_type nothing nothing x A ≡ b
strict_found x A b e = sym (self_in_type 0 x A) ∙ e

pub one_more_strict : (A : LfType) (k : ℕ) → ((x : ℕ) → x < k → strict_type nothing nothing x A ≡ true) → strict_type nothing nothing k A ≡ true → (x : ℕ) → x < k + 1 → strict_type nothing nothing x A ≡ true
one_more_strict A k h e x l = by (less x k l)
  where
    less : (x k : ℕ) → x < k + 1 → (x < k) ⊎ (x ≡ k)
    less zero zero l = inr refl
    less zero (suc k) l = inl (omega arith)
    less (suc x) zero l = absurd (omega (arith, l))
    less (suc x) (suc k) l = step (less x k (omega (arith, l)))
      where
        step : (x < k) ⊎ (x ≡ k) → (suc x < suc k) ⊎ (suc x ≡ suc k)
        step (inl q) = inl (omega (arith, q))
        step (inr q) = inr (ap suc q)

    by : (x < k) ⊎ (x ≡ k) → strict_type nothing nothing x A ≡ true
    by (inl q) = h x q
    by (inr q) = ap (λ y. strict_type nothing nothing y A) q ∙ e

-- Types of a context, one after the other.
pub drop_first : (D : List LfType) (i : ℕ) (A : LfType) → Some A ≡ slice_get D i → drop i D ≡ A ∷ drop (i + 1) D
drop_first [] i A e = absurd cc
drop_first (B ∷ D) zero A e = let p : A ≡ B = cc in ap (λ X. X ∷ D) (sym p)
drop_first (B ∷ D) (suc i) A e = let n : suc (i + 1) ≡ suc i + 1 = omega arith in drop_first D i A e ∙ ap (λ k. A ∷ drop k (B ∷ D)) n

pub none_there : (D : List LfType) (i : ℕ) → None ≡ slice_get D i → drop i D ≡ []
none_there [] zero e = refl
none_there [] (suc i) e = refl
none_there (B ∷ D) zero e = absurd cc
none_there (B ∷ D) (suc i) e = none_there D i e

take_none : (n : ℕ) → take {A = LfType} n [] ≡ []
take_none zero = refl
take_none (suc n) = refl

after_it : (D : List LfType) (at at' : ℕ) → at' ≡ suc at → drop at' D ≡ drop (at + 1) D
after_it D at at' e = ap (λ n. drop n D) (let q : at' ≡ at + 1 = omega (arith, e) in q)

pub closed_next : (D : List LfType) (at at' l k : ℕ) (A P R : LfType) → Some A ≡ slice_get D at → l ≡ suc k → at' ≡ suc at → R ≡ pi A P → pi_over (take k (drop at' D)) R ≡ pi_over (take l (drop at D)) P
closed_next D at at' l k A P R g e n q = ap (λ X. pi_over (take k X) R) (after_it D at at' n) ∙ ap (pi_over (take k (drop (at + 1) D))) q ∙ sym (ap (λ n. pi_over (take n (drop at D)) P) e ∙ ap (λ X. pi_over (take (suc k) X) P) (drop_first D at A g))

pub closed_past : (D : List LfType) (at l : ℕ) (P : LfType) → None ≡ slice_get D at → P ≡ pi_over (take l (drop at D)) P
closed_past D at l P g = sym (ap (λ X. pi_over (take l X) P) (none_there D at g) ∙ ap (λ X. pi_over X P) (take_none l))

pub part_next : (D : List LfType) (at at' l k : ℕ) (A P R : LfType) → Some A ≡ slice_get D at → l ≡ suc k → at' ≡ suc at → P ≡ A → R ≡ pi_over (take k (drop at' D)) P → Some R ≡ as_type (take l (drop at D))
part_next D at at' l k A P R g e n p r = ap Some (r ∙ ap (λ X. pi_over (take k X) P) (after_it D at at' n) ∙ ap (pi_over (take k (drop (at + 1) D))) p) ∙ sym (ap (λ n. as_type (take n (drop at D))) e ∙ ap (λ X. as_type (take (suc k) X)) (drop_first D at A g))

pub part_past : (D : List LfType) (at l : ℕ) → None ≡ slice_get D at → None ≡ as_type (take l (drop at D))
part_past D at l g = sym (ap (λ X. as_type (take l X)) (none_there D at g) ∙ ap as_type (take_none l))

take_all : (D : List LfType) → take (length D) (drop 0 D) ≡ D
take_all [] = refl
take_all (A ∷ D) = ap (λ X. A ∷ X) (take_all D)

pub take_whole : (D : List LfType) (n : ℕ) → n ≡ length D → take n (drop 0 D) ≡ D
take_whole D n e = ap (λ k. take k (drop 0 D)) e ∙ take_all D

pub some_kept : (o : Option RustTerm) → is_some (option_map term_of o) ≡ is_some o
some_kept (Some v) = refl
some_kept None = refl

-- A block's variables are strict where they are strict in the block as one type.
under_among_at : (E : LfType) (es : List LfType) (i : ℕ) → under (among es) i ≡ among (E ∷ es) i
under_among_at E es zero = refl
under_among_at E es (suc i) = refl

under_among : (E : LfType) (es : List LfType) → under (among es) ≡ among (E ∷ es)
under_among E es = fun_ext (under_among_at E es)

among_none : among [] ≡ nothing
among_none = fun_ext (λ i. refl)

either_cases : (a b : Bool) → either a b ≡ true → (a ≡ true) ⊎ (b ≡ true)
either_cases true b e = inl refl
either_cases false b e = inr e

either_left : (a b : Bool) → a ≡ true → either a b ≡ true
either_left true b e = refl
either_left false b e = absurd cc

either_right : (a b : Bool) → b ≡ true → either a b ≡ true
either_right true b e = refl
either_right false b e = e

range_strict : (A : LfType) (es : List LfType) (x : ℕ) (Q : LfType) → strict_type (under (among es)) (hide nothing) (suc (past_types es x)) Q ≡ strict_type (among (A ∷ es)) nothing (past_types (A ∷ es) x) Q
range_strict A es x Q = ap (λ F. strict_type (under (among es)) F (suc (past_types es x)) Q) hidden_nothing ∙ ap (λ B. strict_type B nothing (suc (past_types es x)) Q) (under_among A es)

abbrev StrictEntry : List LfType → ℕ → Type 0
StrictEntry es x = (later : List LfType) × (E : LfType) × (older : List LfType) × (onto later (E ∷ older) ≡ es) × (strict_type (among older) nothing (past_types older x) E ≡ true)

strict_entry : (es : List LfType) (Q : LfType) (x : ℕ) → strict_type nothing nothing x (pi_over es Q) ≡ true → (strict_type (among es) nothing (past_types es x) Q ≡ true) ⊎ StrictEntry es x
strict_entry [] Q x s = inl (ap (λ B. strict_type B nothing x Q) among_none ∙ s)
strict_entry (A ∷ es) Q x s = by (strict_entry es (pi A Q) x s)
  where
    by : (strict_type (among es) nothing (past_types es x) (pi A Q) ≡ true) ⊎ StrictEntry es x → (strict_type (among (A ∷ es)) nothing (past_types (A ∷ es) x) Q ≡ true) ⊎ StrictEntry (A ∷ es) x
    by (inr (later, E, older, o, q)) = inr (A ∷ later, E, older, ap (λ X. A ∷ X) o, q)
    by (inl q) = one (either_cases (strict_type (among es) nothing (past_types es x) A) (strict_type (under (among es)) (hide nothing) (suc (past_types es x)) Q) q)
      where
        one : (strict_type (among es) nothing (past_types es x) A ≡ true) ⊎ (strict_type (under (among es)) (hide nothing) (suc (past_types es x)) Q ≡ true) → (strict_type (among (A ∷ es)) nothing (past_types (A ∷ es) x) Q ≡ true) ⊎ StrictEntry (A ∷ es) x
        one (inl w) = inr ([], A, es, refl, w)
        one (inr w) = inl (sym (range_strict A es x Q) ∙ w)

strict_over : (es : List LfType) (Q : LfType) (x : ℕ) → strict_type (among es) nothing (past_types es x) Q ≡ true → strict_type nothing nothing x (pi_over es Q) ≡ true
strict_over [] Q x s = ap (λ B. strict_type B nothing x Q) (sym among_none) ∙ s
strict_over (A ∷ es) Q x s = strict_over es (pi A Q) x (either_right (strict_type (among es) nothing (past_types es x) A) (strict_type (under (among es)) (hide nothing) (suc (past_types es x)) Q) (range_strict A es x Q ∙ s))

strict_inside : (later : List LfType) (E : LfType) (es : List LfType) (Q : LfType) (x : ℕ) → strict_type (among es) nothing (past_types es x) E ≡ true → strict_type nothing nothing x (pi_over (onto later (E ∷ es)) Q) ≡ true
strict_inside [] E es Q x s = strict_over es (pi E Q) x (either_left (strict_type (among es) nothing (past_types es x) E) (strict_type (under (among es)) (hide nothing) (suc (past_types es x)) Q) s)
strict_inside (L ∷ later) E es Q x s = strict_inside later E es (pi L Q) x s

strict_whole : (later : List LfType) (E : LfType) (es : List LfType) (P : LfType) (x : ℕ) → as_type (onto later (E ∷ es)) ≡ Some P → strict_type (among es) nothing (past_types es x) E ≡ true → strict_type nothing nothing x P ≡ true
strict_whole [] E es P x q s = ap (strict_type nothing nothing x) (sym (same q)) ∙ strict_over es E x s
  where
    same : {X Y : LfType} → Some X ≡ Some Y → X ≡ Y
    same e = cc
strict_whole (L ∷ later) E es P x q s = ap (strict_type nothing nothing x) (sym (same q)) ∙ strict_inside later E es L x s
  where
    same : {X Y : LfType} → Some X ≡ Some Y → X ≡ Y
    same e = cc

type_below : (O : List LfType) (x : ℕ) (A : LfType) → TypeAt O x A → x < length O
type_below [] x A g = absurd g
type_below (B ∷ O) zero A g = omega arith
type_below (B ∷ O) (suc x) A (D, g, e) = let l = type_below O x D g in omega (arith, l)

type_there : (O : List LfType) (x : ℕ) → x < length O → (A : LfType) × TypeAt O x A
type_there [] x l = absurd (omega (arith, l))
type_there (B ∷ O) zero l = (weaken B, refl)
type_there (B ∷ O) (suc x) l = let (A, g) = type_there O x (omega (arith, l)) in (weaken A, (A, g, refl))

pub strict_block : (B : Block) (P : LfType) → as_type B.entries ≡ Some P → ((x : ℕ) → x < length B.some → strict_type nothing nothing x P ≡ true) ↔ IsStrictBlock B
strict_block B P p = (forward, back)
  where
    forward : ((x : ℕ) → x < length B.some → strict_type nothing nothing x P ≡ true) → IsStrictBlock B
    forward h x A g = from B.entries p (h x (type_below B.some x A g))
      where
        from : (es : List LfType) → as_type es ≡ Some P → strict_type nothing nothing x P ≡ true → StrictEntry es x
        from [] q s = absurd cc
        from (E ∷ es) q s = by (strict_entry es E x (ap (strict_type nothing nothing x) (same q) ∙ s))
          where
            same : Some (pi_over es E) ≡ Some P → pi_over es E ≡ P
            same e = cc

            by : (strict_type (among es) nothing (past_types es x) E ≡ true) ⊎ StrictEntry es x → StrictEntry (E ∷ es) x
            by (inl w) = ([], E, es, refl, w)
            by (inr (later, F, older, o, w)) = (E ∷ later, F, older, ap (λ X. E ∷ X) o, w)

    back : IsStrictBlock B → (x : ℕ) → x < length B.some → strict_type nothing nothing x P ≡ true
    back st x l =
        let (A, g) = type_there B.some x l in
        let (later, E, older, o, s) = st x A g in
        strict_whole later E older P x (ap as_type o ∙ p) s

pub strict_empty : (B : Block) → None ≡ as_type B.entries → (length B.some ≡ 0) ↔ IsStrictBlock B
strict_empty B p = (forward, back)
  where
    forward : length B.some ≡ 0 → IsStrictBlock B
    forward e x A g = absurd (let l = type_below B.some x A g in omega (arith, l, e))

    nothing_there : (later : List LfType) (E : LfType) (older es : List LfType) → onto later (E ∷ older) ≡ es → None ≡ as_type es → ⊥
    nothing_there [] E older [] o q = cc
    nothing_there (L ∷ later) E older [] o q = cc
    nothing_there later E older (F ∷ es) o q = cc

    back : IsStrictBlock B → length B.some ≡ 0
    back st = by B.some refl
      where
        by : (O : List LfType) → O ≡ B.some → length B.some ≡ 0
        by [] e = ap length (sym e)
        by (A ∷ O) e =
            let (later, E, older, o, s) = st 0 (weaken A) (subst (λ X. TypeAt X 0 (weaken A)) e refl) in
            absurd (nothing_there later E older B.entries o p)

-- A part of a context as an instance of a block.
onto_none : (O : List LfType) → onto O [] ≡ O
onto_none [] = refl
onto_none (A ∷ O) = ap (λ X. A ∷ X) (onto_none O)

some_same : {X Y : LfType} → Some X ≡ Some Y → X ≡ Y
some_same e = cc

pi_first : {A B C D : LfType} → pi A C ≡ pi B D → A ≡ B
pi_first e = cc

pi_second : {A B C D : LfType} → pi A C ≡ pi B D → C ≡ D
pi_second e = cc

pi_same : (xs ys : List LfType) (X Y : LfType) → length xs ≡ length ys → pi_over xs X ≡ pi_over ys Y → (xs ≡ ys) × (X ≡ Y)
pi_same [] [] X Y l e = (refl, e)
pi_same [] (B ∷ ys) X Y l e = absurd (omega (arith, l))
pi_same (A ∷ xs) [] X Y l e = absurd (omega (arith, l))
pi_same (A ∷ xs) (B ∷ ys) X Y l e = let (p, q) = pi_same xs ys (pi A X) (pi B Y) (omega (arith, l)) e in (ap₂ (λ z zs. z ∷ zs) (pi_first q) p, pi_second q)

instance_length : (es : List LfType) (θ : ℕ → Image) → length (instance es θ) ≡ length es
instance_length [] θ = refl
instance_length (E ∷ es) θ = ap suc (instance_length es θ)

same_instance : (es xs : List LfType) (P T : LfType) (θ : ℕ → Image) → as_type es ≡ Some P → as_type xs ≡ Some T → length xs ≡ length es → substitute_type reduce θ P ≡ T → instance es θ ≡ xs
same_instance [] xs P T θ p q l e = absurd cc
same_instance (E ∷ es) [] P T θ p q l e = absurd cc
same_instance (E ∷ es) (X ∷ xs) P T θ p q l e =
    let r : pi_over (instance es θ) (substitute_type reduce (lift_over es θ) E) ≡ pi_over xs X = sym (pis_substituted θ es E) ∙ ap (substitute_type reduce θ) (some_same p) ∙ e ∙ sym (some_same q) in
    let n = instance_length es θ in
    let (a, b) = pi_same (instance es θ) xs (substitute_type reduce (lift_over es θ) E) X (omega (arith, l, n)) r in
    ap₂ (λ y ys. y ∷ ys) b a

same_type : (es xs : List LfType) (P T : LfType) (θ : ℕ → Image) → as_type es ≡ Some P → as_type xs ≡ Some T → instance es θ ≡ xs → substitute_type reduce θ P ≡ T
same_type [] xs P T θ p q e = absurd cc
same_type (E ∷ es) xs P T θ p q e = ap (substitute_type reduce θ) (sym (some_same p)) ∙ pis_substituted θ es E ∙ some_same (ap as_type e ∙ q)

module _ (Σ : Signature) (ok : IsSignature Σ) (B : Block) (typed : IsTypedBlock Σ B) (st : IsStrictBlock B) where
  entries_typed : (es : List LfType) (P : LfType) → as_type es ≡ Some P → IsContext Σ (onto es B.some) → IsType Σ B.some P × IsContext Σ B.some
  entries_typed [] P p c = absurd cc
  entries_typed (E ∷ es) P p (c, t) = (subst (IsType Σ B.some) (some_same p) (over_is_type Σ es B.some E c t), older_is_context Σ es B.some c)

  pub block_closed : (P : LfType) → as_type B.entries ≡ Some P → IsType Σ [] (pi_over B.some P)
  block_closed P p = let (t, c) = entries_typed B.entries P p typed in over_is_type Σ B.some [] P (subst (IsContext Σ) (sym (onto_none B.some)) c) (subst (λ X. IsType Σ X P) (sym (onto_none B.some)) t)

  pub block_anywhere : (G : List LfType) (P : LfType) → as_type B.entries ≡ Some P → IsType Σ G (pi_over B.some P)
  block_anywhere G P p = subst (IsType Σ G) (closed_type_renamed Σ (λ i. i) (pi_over B.some P) (block_closed P p)) (renaming_keeps_types Σ ok [] G (λ i. i) (pi_over B.some P) (λ i A g. absurd g) (block_closed P p))

  nothing_given : (G : List LfType) → AreValues Σ [] G keep
  nothing_given G = record { typed = record { typed = λ i A g u. absurd g; closed = λ i A g u. absurd g }; terms = λ i A g. absurd g }

  pub instance_settled : (G xs : List LfType) (P T closed : LfType) (n : ℕ) (b : Bool) → as_type B.entries ≡ Some P → as_type xs ≡ Some T → length xs ≡ length B.entries → closed ≡ pi_over B.some P → n ≡ length B.some → Settles Σ G P T n closed b → IsTrue b ↔ IsInstance Σ B G xs
  instance_settled G xs P T closed n b p q l e k s = (forward, back b refl)
    where
      reached : Reaches Σ G P B.some [] keep n closed
      reached = record {
        context = subst (IsContext Σ) (sym (onto_none B.some)) (entries_typed B.entries P p typed).1;
        pattern = subst (λ X. IsType Σ X P) (sym (onto_none B.some)) (entries_typed B.entries P p typed).0;
        strict = λ x A g. (strict_block B P p).1 st x (type_below B.some x A (subst (λ X. TypeAt X x A) (onto_none B.some) g));
        count = k;
        values = nothing_given G;
        is_rest = e ∙ sym (closed_type_substituted Σ reduce keep (pi_over B.some P) (block_closed P p));
      }

      forward : IsTrue b → IsInstance Σ B G xs
      forward w =
          let (θ, m) = (s B.some [] keep reached).0 w in
          (θ, subst (λ X. AreValues Σ X G θ) (onto_none B.some) m.values, same_instance B.entries xs P T θ p q l m.same)

      back : (c : Bool) → b ≡ c → IsInstance Σ B G xs → IsTrue b
      back true w i = w
      back false w (θ, v, i) = absurd ((s B.some [] keep reached).1 w θ (record { values = subst (λ X. AreValues Σ X G θ) (sym (onto_none B.some)) v; same = same_type B.entries xs P T θ p q i }) (λ j A g. absurd g))

pub length_taken : (n : ℕ) (xs : List LfType) → n ≤ length xs → length (take n xs) ≡ n
length_taken zero xs l = refl
length_taken (suc n) [] l = absurd (omega (arith, l))
length_taken (suc n) (x ∷ xs) l = let e = length_taken n xs (omega (arith, l)) in omega (arith, e)

pub some_type : (es : List LfType) → 0 < length es → None ≡ as_type es → ⊥
some_type [] l e = omega (arith, l)
some_type (E ∷ es) l e = cc

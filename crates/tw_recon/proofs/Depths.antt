-- How deep a context and what stands over it are.
use Rattle.std.proofs.Common.{◌≡◌, ℕ, zero, suc, ◌+◌, ◌<◌, ◌≤◌, List, [], ◌∷◌, drop, length, None, Some, sym, subst, arith}
use Rattle.std.proofs.Math.Nat.{le-max_left, le-max_right}
use Rattle.std.specs.List.{slice_get}
use Rattle.lf.specs.Depth.{depth_limit, kind_depth, type_depth}
use Rattle.lf.specs.Entries.{Body, BodyIsWithin, declare_constant, declare_definition, declare_family}
use Rattle.lf.specs.Syntax.{Kind, LfType, kind_pi, pi}
use Rattle.lf_elaboration.specs.Kinds.{kind_over}
use Rattle.lf_elaboration.specs.Principal.{body_over}
use Rattle.lf_unification.specs.Offering.{pi_over}
use Rattle.tw_recon.specs.Queries.{ContextIsWithin}
use Rattle.tw_recon.proofs.Closed.{drop_first}

-- what stands over a context is no deeper than closed over it
pub type_over : (D : List LfType) (A : LfType) → type_depth A ≤ type_depth (pi_over D A)
type_over [] A = omega arith
type_over (B ∷ D) A = let h = type_over D (pi B A) in let r = le-max_right (type_depth B) (type_depth A) in omega (arith, h, r)

-- nor is a type of the context
pub type_in : (D : List LfType) (i : ℕ) (B A : LfType) → Some B ≡ slice_get D i → type_depth B ≤ type_depth (pi_over D A)
type_in [] i B A e = absurd cc
type_in (C ∷ D) zero B A e =
    let s : B ≡ C = cc in
    let h = type_over D (pi C A) in
    let l = le-max_left (type_depth C) (type_depth A) in
    let k : type_depth C ≤ type_depth (pi_over D (pi C A)) = omega (arith, h, l) in
    subst (λ X. type_depth X ≤ type_depth (pi_over D (pi C A))) (sym s) k
type_in (C ∷ D) (suc i) B A e = type_in D i B (pi C A) e

-- so where one of them is deep, the whole is
pub deep_over : (D : List LfType) (A : LfType) → depth_limit < type_depth A → depth_limit < type_depth (pi_over D A)
deep_over D A h = let k = type_over D A in omega (arith, h, k)

pub deep_in : (D : List LfType) (i : ℕ) (B A : LfType) → Some B ≡ slice_get D i → depth_limit < type_depth B → depth_limit < type_depth (pi_over D A)
deep_in D i B A e h = let k = type_in D i B A e in omega (arith, h, k)

-- each variable of a context has a type
pub never_past : (D : List LfType) (i : ℕ) → i < length D → None ≡ slice_get D i → ⊥
never_past [] i h e = omega (arith, h)
never_past (A ∷ D) zero h e = cc
never_past (A ∷ D) (suc i) h e = never_past D i (omega (arith, h)) e

-- one more type within the limit
pub within_next : (D : List LfType) (i : ℕ) (B : LfType) → Some B ≡ slice_get D i → type_depth B ≤ depth_limit → (ContextIsWithin depth_limit (drop i D) → ContextIsWithin depth_limit D) → ContextIsWithin depth_limit (drop (i + 1) D) → ContextIsWithin depth_limit D
within_next D i B e h k r = k (subst (ContextIsWithin depth_limit) (sym (drop_first D i B e)) (h, r))

types_and_depth : (F : List LfType) (A : LfType) → length F + type_depth A ≤ type_depth (pi_over F A)
types_and_depth [] A = omega arith
types_and_depth (B ∷ F) A = let h = types_and_depth F (pi B A) in let r = le-max_right (type_depth B) (type_depth A) in omega (arith, h, r)

kinds_and_depth : (F : List LfType) (K : Kind) → length F + kind_depth K ≤ kind_depth (kind_over F K)
kinds_and_depth [] K = omega arith
kinds_and_depth (B ∷ F) K = let h = kinds_and_depth F (kind_pi B K) in let r = le-max_right (type_depth B) (kind_depth K) in omega (arith, h, r)

-- There are no more types in a context than what is closed over it is deep.
types_counted : (F : List LfType) (A : LfType) → length F ≤ type_depth (pi_over F A)
types_counted F A = let h = types_and_depth F A in omega (arith, h)

kinds_counted : (F : List LfType) (K : Kind) → length F ≤ kind_depth (kind_over F K)
kinds_counted F K = let h = kinds_and_depth F K in omega (arith, h)

pub quantifiers_within : (limit : ℕ) (F : List LfType) (b : Body) → BodyIsWithin limit (body_over F b) → length F ≤ limit
quantifiers_within limit F (declare_family K) h = let c = kinds_counted F K in omega (arith, c, h)
quantifiers_within limit F (declare_constant A) h = let c = types_counted F A in omega (arith, c, h)
quantifiers_within limit F (declare_definition M A b) (h, m) = let c = types_counted F A in omega (arith, c, h)

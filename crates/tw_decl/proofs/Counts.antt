-- A family that takes just so many arguments has fewer of them than the number of a place may be.
use Rattle.std.proofs.Common.{◌≡◌, ◌≤◌, ◌<◌, ◌+◌, ◌-◌, ◌^◌, ℕ, List, [], ◌∷◌, length, Bool, true, false, cond, Some, Option, subst, arith}
use Rattle.std.specs.Prelude.{◌==◌, ◌&&◌}
use Rattle.std.proofs.lemmas.Bool.Decides.{nat_tests}
use Rattle.lf.specs.Depth.{kind_depth, depth_limit}
use Rattle.lf.specs.Entries.{Body, Entry, declare_family, declare_constant, declare_definition, entry, kind_quantifiers, body_quantifiers, BodyIsWithin, IsCanonicalSignature}
use Rattle.lf.specs.Syntax.{Kind, kind_pi, star}
use Rattle.lf.specs.Variables.{same_number}
use Rattle.tw_decl.specs.Applications.{takes_just}
use Rattle.tw_decl.specs.Preferences.{is_family_body}

quantifiers_within : (K : Kind) → kind_quantifiers K ≤ kind_depth K
quantifiers_within (kind_pi A K) = let h = quantifiers_within K in grind (arith, h)
quantifiers_within star = grind arith

-- what is known of an entry that stands
record Stands (e : Entry) : Type 0 where
  implicit_lead : e.implicit ≤ body_quantifiers e.body
  within : BodyIsWithin depth_limit e.body

stands_by : (b : Bool) (x e : Entry) (rest : Option Entry) → Stands x → (rest ≡ Some e → Stands e) → cond b (Some x) rest ≡ Some e → Stands e
stands_by true x e rest own on h = let same : x ≡ e = cc in subst Stands same own
stands_by false x e rest own on h = on h

stands : (es : List Entry) (c : ℕ) (e : Entry) → IsCanonicalSignature es → entry es c ≡ Some e → Stands e
stands [] c e s h = cc
stands (x ∷ xs) c e s h = stands_by (same_number c (length xs)) x e (entry xs c) (record { implicit_lead = s.1.implicit_lead; within = s.1.within }) (λ k. stands xs c e s.0 k) h

few : (q i d n : ℕ) → i ≤ q → q ≤ d → d ≤ 4096 → (q - i == n) ≡ true → n + i < 2 ^ 32
few q i d n lead deep within h = grind (arith, nat_tests, lead, deep, within, h)

few_of : (b : Body) (i n : ℕ) → i ≤ body_quantifiers b → BodyIsWithin depth_limit b → (is_family_body b && (body_quantifiers b - i == n)) ≡ true → n + i < 2 ^ 32
few_of (declare_family K) i n lead within h = few (kind_quantifiers K) i (kind_depth K) n lead (quantifiers_within K) within h
few_of (declare_constant A) i n lead within h = let clash : false ≡ true = h in absurd cc
few_of (declare_definition M A b) i n lead within h = let clash : false ≡ true = h in absurd cc

pub few_places : (es : List Entry) (c n : ℕ) (e : Entry) → IsCanonicalSignature es → entry es c ≡ Some e → takes_just n (Some e) ≡ true → n + e.implicit < 2 ^ 32
few_places es c n e s found h = let k = stands es c e s found in few_of e.body e.implicit n k.implicit_lead k.within h

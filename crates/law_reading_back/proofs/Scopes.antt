-- Variables in scope: their names differ, are no constant's, and name them.
use Rattle.std.proofs.Common.{◌≡◌, ℕ, zero, suc, List, [], ◌∷◌, Bool, true, false, cond, Option, Some, None, option_map, refl, sym, ap, ◌∙◌, subst}
use Rattle.std.specs.Prelude.{◌||◌, is_some}
use Rattle.std.specs.List.{slice_get}
use Rattle.std.specs.Str.{bytes_eq}
use Rattle.std.specs.Cmp.Lexicographic.{bytes_decides}
use Rattle.std.specs.FinMap as map
use Rattle.lf.specs.Syntax.{LfType, weaken}
use Rattle.lf.specs.Typing.{Signature, TypeAt, IsType, IsContext}
use Rattle.lf.specs.Variables.{UsesType}
use Rattle.lf.proofs.Uses.{uses_type_renamed}
use Rattle.tw_fixity.specs.Names.{variable_of}
use Rattle.tw_fixity.specs.Names.{Names as Scope, is_name, is_in_scope}
use Rattle.tw_print.specs.Names.{Scene, is_taken}
use Rattle.tw_signature.specs.Names.{number_of}
use Rattle.law_reading_back.proofs.Occurring.{Hidden}

some_inj : {X : Type 0} {x y : X} → Some x ≡ Some y → x ≡ y
some_inj e = cc

none_is_not_some : {X : Type 0} {x : X} → None ≡ Some x → ⊥
none_is_not_some e = cc

abbrev pub has_name : Option (Option (List ℕ)) → Bool
has_name (Some (Some x)) = true
has_name (Some None) = false
has_name None = false

-- the variables that have a name
abbrev pub shown : Scope → ℕ → Bool
shown ns i = has_name (slice_get ns i)

named_of : (o : Option (Option (List ℕ))) → has_name o ≡ true → (x : List ℕ) × (o ≡ Some (Some x))
named_of (Some (Some x)) e = (x, refl)
named_of (Some None) e = cc
named_of None e = cc

pub name_of : (ns : Scope) (i : ℕ) → shown ns i ≡ true → (x : List ℕ) × (slice_get ns i ≡ Some (Some x))
name_of ns i e = named_of (slice_get ns i) e

-- The names of the variables in scope, where those of the signature es and of the scene are declared.
pub record InScope (s : Scene) (Σ : Signature) (G : List LfType) (ns : Scope) : Type 0 where
  pub context : IsContext Σ G
  pub named : (i : ℕ) (x : List ℕ) → slice_get ns i ≡ Some (Some x) → variable_of ns x ≡ Some i
  pub free : (i : ℕ) (x : List ℕ) → slice_get ns i ≡ Some (Some x) → number_of s.entries x ≡ None
  pub closed : (i : ℕ) (A : LfType) → TypeAt G i A → shown ns i ≡ true → UsesType (shown ns) A

-- where a name leads, a variable has it
named_by : (b : Bool) (y x : List ℕ) (ns : Scope) (i : ℕ) (o : Option ℕ) → bytes_eq y x ≡ b → cond b (Some zero) (option_map suc o) ≡ Some i → ((j : ℕ) → o ≡ Some j → slice_get ns j ≡ Some (Some x)) → slice_get (Some y ∷ ns) i ≡ Some (Some x)
named_by true y x ns i o q e h = let z : zero ≡ i = some_inj e in subst (λ j. slice_get (Some y ∷ ns) j ≡ Some (Some x)) z (ap (λ w. Some (Some w)) ((bytes_decides y x).0 q))
named_by false y x ns i None q e h = absurd (none_is_not_some e)
named_by false y x ns i (Some j) q e h = let z : suc j ≡ i = some_inj e in subst (λ k. slice_get (Some y ∷ ns) k ≡ Some (Some x)) z (h j refl)

behind_nameless : (ns : Scope) (x : List ℕ) (i : ℕ) (o : Option ℕ) → option_map suc o ≡ Some i → ((j : ℕ) → o ≡ Some j → slice_get ns j ≡ Some (Some x)) → slice_get (None ∷ ns) i ≡ Some (Some x)
behind_nameless ns x i None e h = absurd (none_is_not_some e)
behind_nameless ns x i (Some j) e h = let z : suc j ≡ i = some_inj e in subst (λ k. slice_get (None ∷ ns) k ≡ Some (Some x)) z (h j refl)

pub variable_named : (ns : Scope) (x : List ℕ) (i : ℕ) → variable_of ns x ≡ Some i → slice_get ns i ≡ Some (Some x)
variable_named [] x i e = absurd (none_is_not_some e)
variable_named (None ∷ ns) x i e = behind_nameless ns x i (variable_of ns x) e (λ j q. variable_named ns x j q)
variable_named (Some y ∷ ns) x i e = named_by (bytes_eq y x) y x ns i (variable_of ns x) refl e (λ j q. variable_named ns x j q)

neither : (a b : Bool) → a || b ≡ false → (a ≡ false) × (b ≡ false)
neither true b e = cc
neither false b e = (refl, e)

not_some : {X : Type 0} (o : Option X) → is_some o ≡ false → o ≡ None
not_some None e = refl
not_some (Some x) e = cc

pub record Untaken (s : Scene) (ns : Scope) (x : List ℕ) : Type 0 where
  pub new : is_in_scope ns x ≡ false
  pub undeclared : number_of s.entries x ≡ None
  pub no_row : map.get s.rows x ≡ None

pub untaken : (s : Scene) (ns : Scope) (x : List ℕ) → is_taken s ns x ≡ false → Untaken s ns x
untaken s ns x e =
    let p = neither (is_in_scope ns x) (is_some (number_of s.entries x) || is_some (map.get s.rows x)) e in
    let q = neither (is_some (number_of s.entries x)) (is_some (map.get s.rows x)) p.1 in
    record { new = p.0; undeclared = not_some (number_of s.entries x) q.0; no_row = not_some (map.get s.rows x) q.1 }

-- a name that isn't in scope is none of those that are
other_name : (ns : Scope) (x y : List ℕ) (i : ℕ) → is_in_scope ns x ≡ false → slice_get ns i ≡ Some (Some y) → bytes_eq x y ≡ false
other_name [] x y i n e = absurd (none_is_not_some e)
other_name (m ∷ ns) x y zero n e = unlike (bytes_eq x y) (λ q. clash (some_inj e) ((bytes_decides x y).0 q))
  where
    unlike : (b : Bool) → (b ≡ true → ⊥) → b ≡ false
    unlike true h = absurd (h refl)
    unlike false h = refl

    clash : m ≡ Some y → x ≡ y → ⊥
    clash f g =
        let t : is_name m x ≡ true = ap (λ o. is_name o x) (f ∙ ap Some (sym g)) ∙ (bytes_decides x x).1 refl in
        let u : is_name m x ≡ false = (neither (is_name m x) (is_in_scope ns x) n).0 in
        let v : true ≡ false = sym t ∙ u in cc
other_name (m ∷ ns) x y (suc i) n e = other_name ns x y i (neither (is_name m x) (is_in_scope ns x) n).1 e

choose : {X : Type 0} (b : Bool) (o p : X) → b ≡ false → cond b o p ≡ p
choose true o p e = cc
choose false o p e = refl

module _ (s : Scene) (Σ : Signature) (G : List LfType) (ns : Scope) (i : InScope s Σ G ns) (A : LfType) (a : IsType Σ G A) (u : UsesType (shown ns) A) where
  moved : (V : ℕ → Bool) (C : LfType) → Hidden (shown ns) V → UsesType (shown ns) C → UsesType V (weaken C)
  moved V C h c = uses_type_renamed (shown ns) V suc C h c

  -- one variable more, with a name that isn't taken
  pub bind : (x : List ℕ) → Untaken s ns x → InScope s Σ (A ∷ G) (Some x ∷ ns)
  bind x n = record { context = (i.context, a); named = names; free = frees; closed = closes }
    where
      names : (j : ℕ) (y : List ℕ) → slice_get (Some x ∷ ns) j ≡ Some (Some y) → variable_of (Some x ∷ ns) y ≡ Some j
      names zero y e = let q : x ≡ y = some_inj (some_inj e) in ap (λ b. cond b (Some zero) (option_map suc (variable_of ns y))) ((bytes_decides x y).1 q)
      names (suc j) y e = choose (bytes_eq x y) (Some zero) (option_map suc (variable_of ns y)) (other_name ns x y j n.new e) ∙ ap (option_map suc) (i.named j y e)

      frees : (j : ℕ) (y : List ℕ) → slice_get (Some x ∷ ns) j ≡ Some (Some y) → number_of s.entries y ≡ None
      frees zero y e = let q : x ≡ y = some_inj (some_inj e) in ap (number_of s.entries) (sym q) ∙ n.undeclared
      frees (suc j) y e = i.free j y e

      closes : (j : ℕ) (C : LfType) → TypeAt (A ∷ G) j C → shown (Some x ∷ ns) j ≡ true → UsesType (shown (Some x ∷ ns)) C
      closes zero C e t = subst (UsesType (shown (Some x ∷ ns))) (sym e) (moved (shown (Some x ∷ ns)) A (λ k q. q) u)
      closes (suc j) C (D, d, e) t = subst (UsesType (shown (Some x ∷ ns))) (sym e) (moved (shown (Some x ∷ ns)) D (λ k q. q) (i.closed j D d t))

  -- one variable more, without a name
  pub pass : InScope s Σ (A ∷ G) (None ∷ ns)
  pass = record { context = (i.context, a); named = names; free = frees; closed = closes }
    where
      names : (j : ℕ) (y : List ℕ) → slice_get (None ∷ ns) j ≡ Some (Some y) → variable_of (None ∷ ns) y ≡ Some j
      names zero y e = absurd (none_is_not_some (some_inj e))
      names (suc j) y e = ap (option_map suc) (i.named j y e)

      frees : (j : ℕ) (y : List ℕ) → slice_get (None ∷ ns) j ≡ Some (Some y) → number_of s.entries y ≡ None
      frees zero y e = absurd (none_is_not_some (some_inj e))
      frees (suc j) y e = i.free j y e

      closes : (j : ℕ) (C : LfType) → TypeAt (A ∷ G) j C → shown (None ∷ ns) j ≡ true → UsesType (shown (None ∷ ns)) C
      closes zero C e t = cc
      closes (suc j) C (D, d, e) t = subst (UsesType (shown (None ∷ ns))) (sym e) (moved (shown (None ∷ ns)) D (λ k q. q) (i.closed j D d t))

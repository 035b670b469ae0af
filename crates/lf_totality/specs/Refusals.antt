-- Worked declarations that the definitions refuse.
use Rattle.std.specs.Prelude.{◌≡◌, ℕ, suc, List, [], ◌∷◌, Bool, cond, Some, None}
use Rattle.lf.specs.Syntax.{variable, Term, Spine, root, nil, app, LfType, pi, atom, kind_pi, star}
use Rattle.lf.specs.Typing.{Signature}
use Rattle.lf.specs.Subordination.{Block, Member}
use Rattle.lf.specs.Variables.{nothing, same_number}
use Rattle.lf.specs.Worlds.{World}
use Rattle.lf_totality.specs.Total.{Total}
use Rattle.lf_checks.specs.Clause.{Clause, constant_clause, entry_clause}
use Rattle.lf_checks.specs.Marks.{Mark, input, output, free, input_places, AreSound}
use Rattle.lf_checks.specs.Modes.{WellModed}
use Rattle.lf_checks.specs.Worlded.{WellWorlded}
use Rattle.lf_checks.specs.Order.{Order, place}
use Rattle.lf_checks.specs.Descent.{CallDescends}
use Rattle.lf_cases.specs.Cover.{CoveredBy}
use Rattle.lf_totality.specs.Examples.{Addition, var, on_two, on_three, nat, successor, first_place, cp_lam}

-- A loop: loop-s : {X:nat} {Y:nat} loop (s X) Y -> loop (s X) Y. The call is equal to the head, and loop calls loop.
abbrev pub loop_s : Clause
loop_s = constant_clause (pi nat (pi nat (pi (on_two 2 (successor (var 1)) (var 0)) (on_two 2 (successor (var 2)) (var 1)))))

-- the call is not less than the head, and the same call leads back
abbrev pub LoopIsRefused : Type 0
LoopIsRefused = (Σ : Signature) (W : List Block) (group : List ℕ) → CallDescends Σ W first_place group loop_s (on_two 2 (successor (var 2)) (var 1)) → ⊥

-- An output that is not ground: f-a : {X:nat} {Y:nat} f X Y, with f +X -Y.
abbrev pub f_a : Clause
f_a = constant_clause (pi nat (pi nat (on_two 3 (var 1) (var 0))))

-- f +X -Y
abbrev pub f_marks : ℕ → List Mark
f_marks a = input ∷ output ∷ []

-- Y is not ground at the end
abbrev pub UngroundIsRefused : Type 0
UngroundIsRefused = (Σ : Signature) (moded : ℕ → Bool) → WellModed Σ f_marks moded f_a → ⊥

-- Marks that don't fit: one mark for the three places of plus.
abbrev pub MarksMustFit : Type 0
MarksMustFit = (W : List Block) → Total Addition 1 (input ∷ []) W → ⊥

-- Marks that are not sound: an input whose type mentions an output, of a family on {N:nat} {V:vec N} with -N +V, and vec = 4.
abbrev pub UnsoundMarksAreRefused : Type 0
UnsoundMarksAreRefused = AreSound nothing (output ∷ input ∷ []) (kind_pi nat (kind_pi (atom 4 (app (var 0) nil)) star)) → ⊥

-- But a variable in a free place needs no value: g-a : {X:nat} g X, with g *X and g = 5.
abbrev pub g_a : Clause
g_a = constant_clause (pi nat (atom 5 (app (var 0) nil)))

-- it is well-moded
abbrev pub FreePlaceIsExempt : Type 0
FreePlaceIsExempt = (Σ : Signature) → Σ.kinds 5 ≡ Some (kind_pi nat star) → (moded : ℕ → Bool) → WellModed Σ (λ a. free ∷ []) moded g_a

-- A missing world: copying under a binder in the world without blocks.
abbrev pub MissingWorldIsRefused : Type 0
MissingWorldIsRefused = (Σ : Signature) → WellWorlded Σ [] cp_lam → ⊥

-- A cycle of equal calls: e-o : {X:nat} o X -> e X and o-e : {X:nat} e X -> o X, with e = 6 and o = 7.
abbrev pub e_o : Clause
e_o = constant_clause (pi nat (pi (atom 7 (app (var 0) nil)) (atom 6 (app (var 1) nil))))

-- o-e, the way back
abbrev pub o_e : Clause
o_e = constant_clause (pi nat (pi (atom 6 (app (var 0) nil)) (atom 7 (app (var 1) nil))))

-- the call of e-o is the same as its head, and o-e leads back
abbrev pub CycleIsRefused : Type 0
CycleIsRefused = (Σ : Signature) (W : List Block) (group : List ℕ) (k : ℕ) → Σ.types k ≡ Some o_e.type → Member 6 group → Member 7 group → CallDescends Σ W first_place group e_o (atom 7 (app (var 1) nil)) → ⊥

-- A family without inhabitants: e : type with no constant, e = 0. It has no inputs, so in every context something must inhabit it. The family
-- k : e -> type, whose one input nothing inhabits, is total with no clause: each of its inputs has an inhabitant.
abbrev pub Empty : Signature
Empty = record { types = λ c. None; kinds = λ a. cond (same_number 0 a) (Some star) (cond (same_number 1 a) (Some (kind_pi (atom 0 nil) star)) None) }

abbrev pub EmptyIsNotTotal : Type 0
EmptyIsNotTotal = (Total Empty 0 [] [] → ⊥) × Total Empty 1 (input ∷ []) []

-- `some` variables. Families: i = 8, t : i -> type = 9, p, q and r, whose first arguments are an index k.

-- i : type
abbrev pub index : LfType
index = atom 8 nil

-- t k
abbrev pub at_index : Term → LfType
at_index k = atom 9 (app k nil)

-- f : {j:i} t j -> t j. Where t has no constants, f is the identity in every context of these blocks.
abbrev pub f_type : LfType
f_type = pi index (pi (at_index (var 0)) (at_index (var 1)))

-- block some {f} block {k:i} {x:t k} {y:t k} {v:q k x} {u:{Z:t k} q k Z -> p k (f k Z)}, with p +J +X and q +J -X. In an instance
-- u is q k Z -> p k Z; but p k y has no inhabitant. So the entry must cover nothing: Z stands in an argument of f.
abbrev pub p_entries : List LfType
p_entries = on_two 11 (var 2) (var 1) ∷ at_index (var 1) ∷ at_index (var 0) ∷ index ∷ []

-- the entry u
abbrev pub u_type : LfType
u_type = pi (at_index (var 3)) (pi (on_two 11 (var 4) (var 0)) (on_two 10 (var 5) (root (variable 6) (app (var 5) (app (var 1) nil)))))

-- the whole block
abbrev pub p_block : Block
p_block = record { label = 108 ∷ []; some = f_type ∷ []; entries = u_type ∷ p_entries }

-- p + + and q + -
abbrev pub p_marks : ℕ → List Mark
p_marks (suc (suc (suc (suc (suc (suc (suc (suc (suc (suc (suc n))))))))))) = input ∷ output ∷ []
p_marks n = input ∷ input ∷ []

-- no inputs of p are an instance of the entry u
abbrev pub SomeVariableCoversNothing : Type 0
SomeVariableCoversNothing = (Σ : Signature) (W : List Block) (S : ℕ → Bool) (G : List LfType) (w : World Σ W S G) (T : Spine) (r : CoveredBy w (input_places (p_marks 10)) 10 T) → r.clause ≡ entry_clause p_block p_entries u_type → ⊥

-- block some {f} block {k:i} {x:t k} {u:{Z:t k} r k Z Z -> r k Z (f k Z)}. In an instance u is r k Z Z -> r k Z Z, and r is empty.
-- So Z must not be smaller than f k Z: a `some` variable is no parameter.
abbrev pub r_entries : List LfType
r_entries = at_index (var 0) ∷ index ∷ []

-- the entry u
abbrev pub r_type : LfType
r_type = pi (at_index (var 1)) (pi (on_three 12 (var 2) (var 0) (var 0)) (on_three 12 (var 3) (var 1) (root (variable 4) (app (var 3) (app (var 1) nil)))))

-- the whole block
abbrev pub r_block : Block
r_block = record { label = 108 ∷ []; some = f_type ∷ []; entries = r_type ∷ r_entries }

-- the order that names the third place
abbrev pub third_place : ℕ → Order
third_place a = place 3

-- the call of the entry u does not descend
abbrev pub SomeVariableIsNoParameter : Type 0
SomeVariableIsNoParameter = (Σ : Signature) (W : List Block) (group : List ℕ) → CallDescends Σ W third_place group (entry_clause r_block r_entries r_type) (on_three 12 (var 3) (var 1) (var 1)) → ⊥

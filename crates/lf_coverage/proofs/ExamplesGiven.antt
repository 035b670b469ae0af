-- A head gives a case: what is the same of the case where instances in contexts are asked for and where typed instances are.
use Rattle.std.proofs.Common.{◌≡◌, ℕ, List, ◌+◌}
use Rattle.std.specs.Prelude.{Bool}
use Rattle.lf.specs.Syntax.{Head, LfType, skeleton, rename_type}
use Rattle.lf.specs.AtOnce.{shift_by}
use Rattle.lf.specs.Substitution.{Image, substitute, reduce, after}
use Rattle.lf.specs.Typing.{Signature, TypeAt}
use Rattle.lf.specs.Subordination.{Block}
use Rattle.lf.specs.Worlds.{World, lift_over, instance}
use Rattle.lf.specs.Extension.{Extends}
use Rattle.lf_cases.specs.Case.{Item, Case, as_term, items_context}
use Rattle.lf_cases.specs.Missing.{AreTypedItems, IsTypedInstance, KeepsApart, put_in}
use Rattle.lf_cases.specs.Reached.{IsSplitBy, arguments_count, head_term, split_items, taken}
use Rattle.lf_coverage.specs.Heads.{GivesCase, Keeps, MakesHead}

-- D is C with typed values of the items after the split put in.
pub record PutsIn (Σ : Signature) (W : List Block) (below : ℕ → ℕ → Bool) (C : Case) (X : LfType) (I : List Item) (n : ℕ) (A : LfType) (D : Case) : Type 0 where
  pub values : ℕ → Image
  pub typed_items : AreTypedItems Σ W D.items
  pub is_instance : IsTypedInstance Σ D.items (split_items below X I n A) values
  pub given : D.given ≡ put_in (λ i. values (i + (n + arguments_count A))) C.given
  pub local : D.local ≡ instance C.local (λ i. values (i + (n + arguments_count A)))
  pub family : D.family ≡ C.family
  pub arguments : D.arguments ≡ put_in (lift_over C.local (λ i. values (i + (n + arguments_count A)))) C.arguments

module _ {Σ : Signature} {W : List Block} {below : ℕ → ℕ → Bool} {C : Case} {X : LfType} {I : List Item} {n : ℕ} {A : LfType} {D : Case} (p : PutsIn Σ W below C X I n A D) (x : ℕ) (h : Head) where
  pub gives_case : (S : ℕ → Bool) → ((Σ' : Signature) → Extends S Σ Σ' → (G : List LfType) (w : World Σ' W S G) (τ : ℕ → Image) (t : MakesHead w below x X I n h A τ) → Keeps w (split_items below X I n A) τ t.is_ground D.items p.values) → GivesCase Σ W S below C x X I n h A D
  gives_case S k = record { values = p.values; typed_items = p.typed_items; is_instance = p.is_instance; keeps = k; given = p.given; local = p.local; family = p.family; arguments = p.arguments }

  pub is_split_by : KeepsApart Σ D.items (split_items below X I n A) p.values p.is_instance → as_term (skeleton (rename_type (shift_by (n + arguments_count A)) X)) (p.values (x + (n + arguments_count A))) ≡ substitute reduce p.values (head_term below (taken (rename_type (shift_by n) X)) h A) → ((F : List Item) (τ : ℕ → Image) → IsTypedInstance Σ F (split_items below X I n A) τ → as_term (skeleton (rename_type (shift_by (n + arguments_count A)) X)) (τ (x + (n + arguments_count A))) ≡ substitute reduce τ (head_term below (taken (rename_type (shift_by n) X)) h A) → (ρ : ℕ → Image) × IsTypedInstance Σ F D.items ρ × ((i : ℕ) (B : LfType) → TypeAt (items_context (split_items below X I n A)) i B → as_term (skeleton B) (τ i) ≡ as_term (skeleton B) (after ρ p.values i))) → IsSplitBy Σ W below C x X I n h A D
  is_split_by apart same general = record {
    values = p.values;
    unifier = record {
      typed_items = p.typed_items;
      unifies = record { is_instance = p.is_instance; keeps_apart = apart; same = same };
      most_general = λ F τ t u. general F τ u.is_instance u.same;
    };
    given = p.given;
    local = p.local;
    family = p.family;
    arguments = p.arguments;
  }

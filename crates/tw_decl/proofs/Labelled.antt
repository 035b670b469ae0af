-- The blocks that labels name, one label after the other.
use Rattle.std.proofs.Common.{◌≡◌, List, [], ◌∷◌, ◌++◌, Bool, false, Option, None, Some, sym, ap, ◌∙◌}
use Rattle.std.proofs.lemmas.List.{append_assoc, map-append}
use Rattle.std.specs.Prelude.{◌&&◌, map as each}
use Rattle.lf.specs.Subordination.{Block}
use Rattle.tw_parse.specs.declared.decl.ExtName.{ExtName}
use Rattle.tw_decl.specs.Labels.{block_named}
use Rattle.tw_decl.specs.Worlds.{are_labels}
use Rattle.tw_decl.specs.View.{View}
use Rattle.tw_decl.proofs.Standing.{block_has_label, no_block_no_label}

module _ (v : View) (l : ExtName) (left rest all : List ExtName) (here : left ≡ l ∷ rest) where
  -- one of them names none
  pub label_is_none : block_named v l.name ≡ None → are_labels v left ≡ are_labels v all → are_labels v all ≡ false
  label_is_none none h = sym h ∙ ap (are_labels v) here ∙ ap (λ (b : Bool). b && are_labels v rest) (no_block_no_label v l.name none)

  -- past one that does
  pub labels_next : (B : Block) → block_named v l.name ≡ Some B → are_labels v left ≡ are_labels v all → are_labels v rest ≡ are_labels v all
  labels_next B some h = sym (ap (are_labels v) here ∙ ap (λ (b : Bool). b && are_labels v rest) (block_has_label v l.name B some)) ∙ h

  pub named_next : (B : Block) (before after : List Block) → block_named v l.name ≡ Some B → after ≡ before ++ B ∷ []
      → each Some before ++ each (λ (x : ExtName). block_named v x.name) left ≡ each (λ (x : ExtName). block_named v x.name) all
      → each Some after ++ each (λ (x : ExtName). block_named v x.name) rest ≡ each (λ (x : ExtName). block_named v x.name) all
  named_next B before after some pushed h =
      ap (λ (xs : List Block). each Some xs ++ each (λ (x : ExtName). block_named v x.name) rest) pushed
      ∙ ap (λ (xs : List (Option Block)). xs ++ each (λ (x : ExtName). block_named v x.name) rest) (map-append Some before (B ∷ []))
      ∙ append_assoc (each Some before) (Some B ∷ []) (each (λ (x : ExtName). block_named v x.name) rest)
      ∙ ap (λ (o : Option Block). each Some before ++ o ∷ each (λ (x : ExtName). block_named v x.name) rest) (sym some)
      ∙ sym (ap (λ (xs : List ExtName). each Some before ++ each (λ (x : ExtName). block_named v x.name) xs) here)
      ∙ h

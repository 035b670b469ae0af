-- The constant of an entry on its own terms is read as its variable.
use Rattle.std.proofs.Common.{◌≡◌, ℕ, zero, suc, List, [], ◌∷◌, length, refl, sym, ap, ◌∙◌}
use Rattle.std.specs.Prelude.{Option, Some, None}
use Rattle.lf.specs.Syntax.{constant, variable, Spine, root, LfType}
use Rattle.lf.specs.Eta.{append}
use Rattle.lf.specs.Typing.{Signature}
use Rattle.lf.specs.Subordination.{Block}
use Rattle.lf_checks.specs.ModeForms.{argument_count}
use Rattle.lf_coverage.proofs.Parts.{some_same}
use Rattle.lf_numbered.specs.EntryConstants.{EntryConstant, entry_constant}
use Rattle.lf_numbered.specs.NumberedCase.{AreTypedBlockVariables}
use Rattle.lf_numbered.specs.NumberedHeads.{EntryOnOwnTermsIsRead}
use Rattle.lf_numbered.specs.OwnTerms.{BlockVariable, blocks_of, own_terms, terms_at, terms_of_entry}
use Rattle.lf_numbered.specs.Reading.{drop_arguments, read, read_constant, read_spine, read_entry, entry_reading}
use Rattle.lf_numbered.proofs.EntryFound.{EachBlock, Found, entry_found, placed_among}
use Rattle.lf_numbered.proofs.EntryValues.{count_some}
use Rattle.lf_numbered.proofs.NumberedHeads.{left_zero}
use Rattle.lf_numbered.proofs.ReadTyped.{drop_own}

-- as many terms as `some` variables
abbrev HasTerms : ℕ → BlockVariable → Type 0
HasTerms k b = argument_count b.terms ≡ length b.block.some

have_terms : (Σ : Signature) (W : List Block) (X : List LfType) (o : ℕ → Option Spine) (k : ℕ) (bs : List BlockVariable) → AreTypedBlockVariables Σ W X o bs → EachBlock HasTerms k bs
have_terms Σ W X o k [] t = tt
have_terms Σ W X o k (b ∷ bs) (m, (υ, u, e), p, t) = (ap argument_count e ∙ count_some b.block.some υ, have_terms Σ W X o (suc k) bs t)

some_first : {m n v w : ℕ} → ◌≡◌ {A = Option (ℕ × ℕ)} (Some (m, v)) (Some (n, w)) → m ≡ n
some_first e = ap (λ (p : ℕ × ℕ). p.0) (some_same e)

pub entry_on_own_terms_is_read : EntryOnOwnTermsIsRead
entry_on_own_terms_is_read Σ first W C tv θ n c m v h = at (entry_constant zero first (blocks_of C.blocks) c) refl
  where
    at : (y : Option EntryConstant) → entry_constant zero first (blocks_of C.blocks) c ≡ y → (U : Spine) × (own_terms first C.blocks c ≡ Some U) × ((S : Spine) → read (entry_reading first (blocks_of C.blocks) θ n) (root (constant c) (append U S)) ≡ root (variable v) (read_spine (entry_reading first (blocks_of C.blocks) θ n) S))
    at None q = absurd (nothing (sym (ap (read_entry θ n) q) ∙ h))
      where
        nothing : ◌≡◌ {A = Option (ℕ × ℕ)} None (Some (m, v)) → ⊥
        nothing e = cc
    at (Some e) q =
        let f : Found HasTerms zero first C.blocks c e = entry_found HasTerms zero first C.blocks c e q (have_terms _ W C.variables (own_terms first C.blocks) zero C.blocks tv.blocks) in
        let p = placed_among e.number f.variable.block e.from zero f.variable.block.entries c e f.among in
        let d : argument_count f.variable.terms ≡ m = f.fact ∙ ap (λ D. length D.some) (sym p.block) ∙ some_first (sym (ap (read_entry θ n) q) ∙ h) in (
          f.variable.terms,
          ap (terms_of_entry C.blocks) q ∙ ap (terms_at C.blocks) (f.number ∙ left_zero f.index) ∙ f.terms,
          λ S. ap (λ y. read_constant y c (read_spine (entry_reading first (blocks_of C.blocks) θ n) (append f.variable.terms S))) h ∙ ap (λ k. root (variable v) (drop_arguments k (read_spine (entry_reading first (blocks_of C.blocks) θ n) (append f.variable.terms S)))) (sym d) ∙ ap (root (variable v)) (drop_own (entry_reading first (blocks_of C.blocks) θ n) f.variable.terms S),
        )

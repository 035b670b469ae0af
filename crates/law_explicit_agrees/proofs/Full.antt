-- What is written in full has no free variable, and no metavariable is made of it. So it is written in one way, without quantifiers, and refused for little.
use Rattle.std.proofs.Common.{◌≡◌, ℕ, zero, List, [], ◌∷◌, true, false, Option, None, Some, ◌⊎◌, inl, inr, refl, sym, ap, ap₂, ◌∙◌, subst}
use Rattle.lf.specs.Entries.{Body, Entry, signature_of}
use Rattle.lf.specs.Syntax.{LfType, Skeleton}
use Rattle.lf_elaboration.specs.Principal.{Completion, IsCompletion, WrittenBody}
use Rattle.lf_elaboration.specs.SiteLaws.{total}
use Rattle.lf_elaboration.specs.Sites.{body_spots}
use Rattle.lf_elaboration.specs.State.{State}
use Rattle.tw_approx.specs.Answer.{HasSkeletons, IsClash, IsLoose, IsOfObjects, Rows, frees_of}
use Rattle.tw_approx.specs.Levels.{IsAmong, is_type_definition, type_lambdas}
use Rattle.tw_approx.specs.Names.{IsFreeVariable}
use Rattle.tw_names.specs.Unknown.{IsOneOf, unknown_in}
use Rattle.tw_names.specs.declared.unknown.Mention.{Mention}
use Rattle.tw_lexer.specs.declared.place.Place.{Place}
use Rattle.tw_parse.specs.Syntax.{Declaration}
use Rattle.tw_recon.specs.Causes.{DeclarationStops, HasCause}
use Rattle.tw_recon.specs.Names.{names_of as hints_of}
use Rattle.tw_recon.specs.Reconstruction.{AreReadOff, IsMade, IsWrittenAs, LeavesNothingOut}
use Rattle.tw_recon.specs.declared.fault.ReconFault.TheVariants.{Leftover, Mismatch}
use Rattle.tw_resolve.specs.Resolved.{resolved_body, skeletons_of}
use Rattle.tw_putting.specs.Whole.{whole}
use Rattle.tw_metas.specs.declared.left.LeftEquation.{LeftEquation}
use Rattle.law_explicit_agrees.proofs.Fitting.{some_is}
use Rattle.law_explicit_agrees.proofs.Nothing.{context_none, left_none, made_none, run_none}

module _ (es : List Entry) (d : Declaration) where
  -- it has skeletons in one way, or in none
  pub not_loose : HasSkeletons es d [] [] ⊎ IsClash es d → IsLoose es d → ⊥
  not_loose (inl s) h =
      let p = s.only h.first h.first_omitted h.first_fits in
      let q = s.only h.second h.second_omitted h.second_fits in
      h.differ (record { frees = λ x i. p.frees x i ∙ sym (q.frees x i); omitted = p.omitted ∙ sym q.omitted })
  not_loose (inr clash) h = clash h.first h.first_omitted h.first_fits

  module _ (objects : IsOfObjects es d) where
    pub no_name : (m : Mention) → IsOneOf m (unknown_in es d) → ⊥
    no_name m h = let none : IsOneOf m [] = subst (IsOneOf m) objects.known h in none

    pub no_type : is_type_definition es d ≡ true → ⊥
    no_type h = let clash : false ≡ true = sym objects.no_definition ∙ h in absurd cc

    pub no_lambda : (p : Place) → IsAmong p (type_lambdas d) → ⊥
    no_lambda p h = let none : IsAmong p [] = subst (IsAmong p) objects.no_lambda h in none

  module _ (not_free : (x : List ℕ) → IsFreeVariable es x d → ⊥) where
    pub no_rows : (rows : Rows) (o : List Skeleton) → HasSkeletons es d rows o → rows ≡ []
    no_rows [] o h = refl
    no_rows ((x, s) ∷ rows) o h = absurd (not_free x (h.row_is_free x (inl refl)))

    -- with these skeletons it is written in one way
    module _ (s : HasSkeletons es d [] []) (w : WrittenBody) (r : resolved_body es [] [] d ≡ Some w) where
      pub written_once : (rows : Rows) (v : WrittenBody) → IsWrittenAs es d rows v → (rows ≡ []) × (v ≡ w)
      written_once rows v h =
          let none : rows ≡ [] = no_rows rows h.omitted h.skeletons in
          let o : [] ≡ h.omitted = (h.skeletons.only (frees_of []) [] s.fits).omitted in
          let same : Some v ≡ Some w = sym h.resolved ∙ ap₂ (λ rs os. resolved_body es rs os d) none (sym o) ∙ r in
          (none, some_is same)

      -- a mismatch has no completion
      pub not_mismatched : (c : Completion) → IsCompletion es [] w c → HasCause es d Mismatch → ⊥
      not_mismatched c k h =
          h.none (record {
            rows = [];
            are_rows = record { row_is_free = λ x a. absurd a; free_has_row = λ x a. absurd (not_free x a); distinct = tt };
            omitted = [];
            written = w;
            resolved = r;
            completion = c;
            completes = k;
          })

    module _ (makes_none : (rows : Rows) (o : List Skeleton) (w : WrittenBody) → resolved_body es rows o d ≡ Some w → total (body_spots es w) ≡ zero) where
      pub nothing_made : (rows : Rows) (w : WrittenBody) (frees : List ℕ) (s : State) (b : Body) → IsWrittenAs es d rows w → IsMade es (skeletons_of rows) w frees s b → (m : ℕ) → s.metavariables m ≡ None
      nothing_made rows w frees s b h made = made_none es w frees s b (makes_none rows h.omitted w h.resolved) (subst (λ r. IsMade es (skeletons_of r) w frees s b) (no_rows rows h.omitted h.skeletons) made)

      pub no_equation : (left : LeftEquation) → DeclarationStops es d (Leftover left) → ⊥
      no_equation left (rows, w, h, l) = left_none (signature_of es) l.state (nothing_made rows w l.frees l.state l.body h l.made) (whole [] l.after) l.outcome

      pub no_quantifier : (rows : Rows) (w : WrittenBody) (G : List LfType) (hs : List (Option (List ℕ))) (shown : List ℕ) (b : Body) → IsWrittenAs es d rows w → LeavesNothingOut es rows w G hs shown ⊎ AreReadOff es rows w G hs shown b → (G ≡ []) × (hs ≡ [])
      no_quantifier rows w G hs shown b h (inl n) = (n.no_quantifier, n.no_hint)
      no_quantifier rows w G hs shown b h (inr read) =
          let none = run_none read.solved.run (nothing_made rows w read.frees read.state read.open_body h read.made) in
          let (ms, empty) = context_none read.after none read.are_quantifiers.context in
          (empty, read.hints_are ∙ ap (hints_of read.naming.names) ms)

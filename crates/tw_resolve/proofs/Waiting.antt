-- Rows that wait for one another, and what is to be done next.
use Rattle.std.proofs.Common.{◌≡◌, List, [], ◌∷◌, ◌++◌, Bor, None, Some, refl, sym, ap, ◌∙◌}
use Rattle.lf.specs.Entries.{Entry}
use Rattle.lf.specs.Syntax.{Skeleton}
use Rattle.lf_elaboration.specs.Written.{Written, applied}
use Rattle.tw_approx.specs.Readings.{Reading}
use Rattle.tw_fixity.specs.Names.{Names}
use Rattle.tw_parse.specs.Applied.{applied_to, written_terms}
use Rattle.tw_parse.specs.Syntax.{Term}
use Rattle.tw_parse.specs.View.{term_of}
use Rattle.tw_parse.specs.declared.term.ExtTerm.{ExtTerm}
use Rattle.tw_resolve.specs.Resolving.{made, resolved_term}
use Rattle.tw_resolve.specs.Rows.{on_arguments, row_read, rows_read}
use Rattle.tw_resolve.specs.declared.rows.Begun.{Begun}
use Rattle.tw_resolve.proofs.Spines.{term_on_arguments, front_given, next_part, none_read_on}
use Rattle.tw_written.specs.View.{written_of}

module _ (es : List Entry) (free N : Names) where
  -- the newest row waits for what is read
  rows_pushed : (ws : List Begun) (w : Begun) (r : Reading Written) → rows_read es free N (ws ++ w ∷ []) r ≡ rows_read es free N ws (row_read es free N w r)
  rows_pushed [] w r = refl
  rows_pushed (v ∷ ws) w r = ap (row_read es free N v) (rows_pushed ws w r)

  -- none is read where what they wait for is missing
  rows_missing : (ws : List Begun) → rows_read es free N ws None ≡ None
  rows_missing [] = refl
  rows_missing (w ∷ ws) = ap (row_read es free N w) (rows_missing ws) ∙ none_read_on (made applied) (resolved_term es free N) (written_terms w.arguments.items) None refl

  -- a row that is begun
  pub row_begun : (ws : List Begun) (T M : Term) (Ps : List Term) (o : List Skeleton) (r W : Reading Written) → applied_to M Ps ≡ T → r ≡ resolved_term es free N M o → rows_read es free N ws (resolved_term es free N T o) ≡ W → rows_read es free N ws (on_arguments es free N Ps r) ≡ W
  row_begun ws T M Ps o r W e h k =
      ap (rows_read es free N ws) (front_given (made applied) (resolved_term es free N) (resolved_term es free N T o) r (resolved_term es free N M o) Ps (term_on_arguments es free N T M Ps o e) h) ∙ k

  -- none is read where what a row begins with is missing
  pub row_missing : (ws : List Begun) (T M : Term) (Ps : List Term) (o : List Skeleton) (W : Reading Written) → applied_to M Ps ≡ T → None ≡ resolved_term es free N M o → rows_read es free N ws (resolved_term es free N T o) ≡ W → None ≡ W
  row_missing ws T M Ps o W e h k =
      sym (rows_missing ws) ∙ ap (rows_read es free N ws) (sym (none_read_on (made applied) (resolved_term es free N) Ps None refl)) ∙ row_begun ws T M Ps o None W e h k

  -- the row waits for its next argument
  pub row_waits : (ws vs : List Begun) (w : Begun) (old new : List (Bor ExtTerm)) (a : Bor ExtTerm) (o : List Skeleton) (W : Reading Written) → vs ≡ ws ++ w ∷ [] → old ≡ new ++ a ∷ [] → w.arguments.items ≡ new
      → rows_read es free N ws (on_arguments es free N (written_terms old) (Some (written_of w.function, o))) ≡ W → rows_read es free N vs (resolved_term es free N (term_of a.now) o) ≡ W
  row_waits ws vs w old new a o W v e n h =
      let P = resolved_term es free N (term_of a.now) o in
      let r : Reading Written = Some (written_of w.function, o) in
      ap (λ us. rows_read es free N us P) v ∙ rows_pushed ws w P ∙ ap (rows_read es free N ws) (next_part (made applied) (resolved_term es free N) (on_arguments es free N (written_terms old) r) r old w.arguments.items a (e ∙ ap (λ l. l ++ a ∷ []) (sym n)) refl) ∙ h

  -- a row that ends is put to the one that waits for it
  pub row_ends : (ws vs : List Begun) (w : Begun) (M X : Written) (o : List Skeleton) (W : Reading Written) → vs ≡ ws ++ w ∷ [] → X ≡ applied (written_of w.function) M
      → rows_read es free N vs (Some (M, o)) ≡ W → rows_read es free N ws (on_arguments es free N (written_terms w.arguments.items) (Some (X, o))) ≡ W
  row_ends ws vs w M X o W v x h =
      ap (λ y. rows_read es free N ws (on_arguments es free N (written_terms w.arguments.items) (Some (y, o)))) x ∙ sym (rows_pushed ws w (Some (M, o))) ∙ ap (λ us. rows_read es free N us (Some (M, o))) (sym v) ∙ h

  -- the last row ends, and none waits
  pub rows_end : (ws : List Begun) (old : List (Bor ExtTerm)) (X : Written) (o : List Skeleton) (W : Reading Written) → ws ≡ [] → old ≡ [] → rows_read es free N ws (on_arguments es free N (written_terms old) (Some (X, o))) ≡ W → Some (X, o) ≡ W
  rows_end ws old X o W v e h =
      ap (λ us. rows_read es free N us (on_arguments es free N (written_terms []) (Some (X, o)))) (sym v) ∙ ap (λ Ps. rows_read es free N ws (on_arguments es free N (written_terms Ps) (Some (X, o)))) (sym e) ∙ h

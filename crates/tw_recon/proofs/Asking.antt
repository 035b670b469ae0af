-- What a goal is reconstructed to.
use Rattle.std.proofs.Common.{◌≡◌, ℕ, zero, ◌<◌, ◌≤◌, List, [], ◌∷◌, length, reverse, Option, None, Some, false, refl, sym, ap, ◌∙◌, subst, inl, inr, ◌⊎◌}
use Rattle.std.proofs.lemmas.List.{length-reverse}
use Rattle.std.specs.Option.{option_map}
use Rattle.lf.specs.Depth.{depth_limit, type_depth}
use Rattle.lf.specs.Entries.{Body, Entry, IsCanonicalSignature, declare_constant, declare_definition, declare_family, signature_of}
use Rattle.lf.specs.Subordination.{Member}
use Rattle.lf.specs.Syntax.{LfType, Skeleton}
use Rattle.lf_elaboration.specs.Completions.{FreeValue}
use Rattle.lf_elaboration.specs.Principal.{CompletesBody, WrittenBody, written_constant}
use Rattle.lf_elaboration.specs.Written.{WrittenType}
use Rattle.lf_unification.specs.Offering.{pi_over}
use Rattle.tw_abstract.proofs.Lists.{index_below}
use Rattle.tw_abstract.specs.Positions.{index}
use Rattle.tw_approx.specs.Answer.{FitsOnce, HasQuerySkeletons, Rows}
use Rattle.tw_approx.specs.Names.{IsFreeIn}
use Rattle.tw_approx.specs.Readings.{Reading}
use Rattle.tw_approx.specs.Skeletons.{FitsClassifier}
use Rattle.tw_lexer.specs.declared.place.Place.{Place}
use Rattle.tw_names.specs.Texts.{ends_in_type}
use Rattle.tw_parse.specs.Syntax.{Term, declare}
use Rattle.tw_resolve.proofs.WholeBodies.{bodies_are_resolved, goals_are_constants}
use Rattle.tw_resolve.specs.Resolved.{names_of, resolved_goal, taken_whole, with_one}
use Rattle.tw_resolve.specs.Resolving.{resolved_type}
use Rattle.tw_signature.specs.View.{body_of}
use Rattle.tw_signature.specs.declared.entry.Body.{Body as ProgramBody}
use Rattle.tw_signature.specs.declared.entry.Body.TheVariants.{Constant, Defined, Family}
use Rattle.tw_terms.specs.declared.canonical.Ty.{Ty}
use Rattle.tw_recon.specs.Causes.{Stops, in_entry}
use Rattle.tw_recon.specs.Names.{add_some, variables_of}
use Rattle.tw_recon.specs.Queries.{ContextIsWithin, HasGoalCause, IsCanonicalGoal, IsGoalWrittenAs}
use Rattle.tw_recon.specs.Reconstruction.{AreReadOff, IsCompletedTo, LeavesNothingOut}
use Rattle.tw_recon.specs.declared.fault.ReconFault.{ReconFault}
use Rattle.tw_recon.specs.declared.fault.ReconFault.TheVariants.{Leftover, Loose, Mismatch, NoMemory, TooDeep, TypeLevel, Unknown}
use Rattle.tw_recon.proofs.Entering.{context_each, hint_each}

-- A goal with skeletons in just one way is resolved.
pub goal_resolved : (es : List Entry) → IsCanonicalSignature es → (A : Term) (rows : Rows) (o : List Skeleton) → ends_in_type A ≡ false → HasQuerySkeletons es A rows o → (w : WrittenBody) × (resolved_goal es rows o A ≡ Some w)
goal_resolved es canonical A rows o e h =
    let at : Place = record { line = zero; column = zero } in
    let (w, r, s) = bodies_are_resolved es canonical (declare [] at A) rows o (subst (λ b. FitsOnce (λ x. IsFreeIn es x [] A) (λ f p. FitsClassifier es f A p b) rows o) (sym e) h) in
    (w, goals_are_constants es rows o [] at A e ∙ r)

-- It is written as a constant's type,
written_type : (r : Reading WrittenType) (w : WrittenBody) → taken_whole (with_one written_constant r) ≡ Some w → (V : WrittenType) × (w ≡ written_constant V)
written_type None w e = absurd cc
written_type (Some (V, [])) w e = (V, cc)
written_type (Some (V, s ∷ o)) w e = absurd cc

completed_type : (es : List Entry) (F : List LfType) (vs : List FreeValue) (V : WrittenType) (b : Body) → CompletesBody es F vs (written_constant V) b → (C : LfType) × (b ≡ declare_constant C)
completed_type es F vs V (declare_family K) h = absurd h
completed_type es F vs V (declare_constant A) h = (A, refl)
completed_type es F vs V (declare_definition M A c) h = absurd h

-- and so completed to one.
pub goal_is_type : (es : List Entry) (A : Term) (rows : Rows) (w : WrittenBody) (G : List LfType) (hints : List (Option (List ℕ))) (shown : List ℕ) (b : Body) → IsGoalWrittenAs es A rows w → IsCompletedTo es rows w G hints shown b → (C : LfType) × (b ≡ declare_constant C)
goal_is_type es A rows w G hints shown b i c =
    let (V, e) = written_type (resolved_type es (names_of rows) [] A i.omitted) w i.resolved in
    completed_type es G c.frees V b (subst (λ x. CompletesBody es G c.frees x b) e c.principal.completion.completed)

-- what is shown is a variable
-- one of what is shown is the variable of m, or of those behind it
shown_first : (ms rest : List ℕ) (m n i : ℕ) (r : Option ℕ) → length ms ≡ n → index ms m ≡ r → (Member i rest → i < n) → Member i (add_some r rest) → i < n
shown_first ms rest m n i None l e f k = f k
shown_first ms rest m n i (Some j) l e f (inl s) = subst (λ x. x < n) (sym s) (subst (λ x. j < x) l (index_below ms m j e))
shown_first ms rest m n i (Some j) l e f (inr k) = f k

in_range : (ms ns : List ℕ) (n i : ℕ) → length ms ≡ n → Member i (variables_of ms ns) → i < n
in_range ms [] n i l h = absurd h
in_range ms (m ∷ ns) n i l h = shown_first ms (variables_of ms ns) m n i (index ms m) l refl (in_range ms ns n i l) h

shown_in_range : (es : List Entry) (rows : Rows) (w : WrittenBody) (G : List LfType) (hints : List (Option (List ℕ))) (shown : List ℕ) (b : Body) → LeavesNothingOut es rows w G hints shown ⊎ AreReadOff es rows w G hints shown b → (i : ℕ) → Member i shown → i < length G
shown_in_range es rows w G hints shown b (inl n) i h = absurd (subst (Member i) n.none_shown h)
shown_in_range es rows w G hints shown b (inr r) i h = in_range r.quantifiers r.naming.firsts (length G) i (context_each r.after r.quantifiers G r.are_quantifiers.context) (subst (Member i) r.shown_are h)

-- A goal that is completed, and within the limit, may be asked.
pub goal_canonical : (es : List Entry) (rows : Rows) (w : WrittenBody) (G : List LfType) (hints names : List (Option (List ℕ))) (shown : List ℕ) (A : LfType) (proof : Option (List ℕ)) → IsCompletedTo es rows w G hints shown (declare_constant A) → names ≡ reverse hints →
    ContextIsWithin depth_limit G → type_depth A ≤ depth_limit → IsCanonicalGoal (signature_of es) (record { variables = G; names = names; shown = shown; proof = proof; goal = A })
goal_canonical es rows w G hints names shown A proof c e g a = record {
  context = c.principal.completion.context;
  typed = c.principal.typed;
  within = (g, a);
  name_each = ap length e ∙ length-reverse hints ∙ hint_each es rows w G hints shown (declare_constant A) c;
  shown = shown_in_range es rows w G hints shown (declare_constant A) c.in_order;
}

-- One that isn't within the limit stops there.
pub goal_deep : (es : List Entry) (A : Term) (rows : Rows) (w : WrittenBody) (G : List LfType) (hints : List (Option (List ℕ))) (shown : List ℕ) (C : LfType) → IsGoalWrittenAs es A rows w → IsCompletedTo es rows w G hints shown (declare_constant C) → depth_limit < type_depth (pi_over G C) → HasGoalCause es A TooDeep
goal_deep es A rows w G hints shown C i c d = inr (rows, w, i, in_entry c (inl d))

-- What is resolved to something isn't resolved to nothing.
pub resolved_to_none : {X Y : Type 0} (f : X → Y) (o : Option X) (r : Option Y) (w : Y) → o ≡ None → option_map f o ≡ r → r ≡ Some w → ⊥
resolved_to_none f None r w n e s = cc
resolved_to_none f (Some x) r w n e s = cc

-- A body that is seen as a constant's is one.
pub constant_body : (b : ProgramBody) (C : LfType) → body_of b ≡ declare_constant C → ((A : Ty) → b ≡ Constant A → ⊥) → ⊥
constant_body (Family K) C e n = cc
constant_body (Constant A) C e n = n A refl
constant_body (Defined M A d) C e n = cc

-- what stops what is written stops the query
pub goal_stops : (es : List Entry) (A : Term) (rows : Rows) (w : WrittenBody) (f : ReconFault) → IsGoalWrittenAs es A rows w → Stops es rows w f → HasGoalCause es A f
goal_stops es A rows w (Unknown name place) i h = absurd h
goal_stops es A rows w (TypeLevel place) i h = absurd h
goal_stops es A rows w Loose i h = absurd h
goal_stops es A rows w Mismatch i h = inr (rows, w, i, h)
goal_stops es A rows w (Leftover left) i h = (rows, w, i, h)
goal_stops es A rows w TooDeep i h = inr (rows, w, i, h)
goal_stops es A rows w NoMemory i h = tt

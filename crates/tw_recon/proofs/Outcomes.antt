-- What each answer of the solver says of what is written.
use Rattle.std.proofs.Common.{◌≡◌, ℕ, List, [], ◌∷◌, length, map, Option, Some, refl, sym, subst, inr}
use Rattle.std.specs.List.{slice_get}
use Rattle.std.specs.Option.{IfSome}
use Rattle.lf.specs.Depth.{depth_limit}
use Rattle.lf.specs.Entries.{Body, Entry, IsCanonicalSignature, signature_of}
use Rattle.lf.specs.Syntax.{Skeleton}
use Rattle.lf.proofs.Entries.{canonical_is_signature}
use Rattle.lf_elaboration.specs.Principal.{WrittenBody}
use Rattle.lf_elaboration.specs.Sites.{AreFreesInOrder}
use Rattle.lf_elaboration.specs.State.{store_of}
use Rattle.lf_unification.specs.DeepEquations.{AreDeep}
use Rattle.lf_unification.specs.Solving.{Left, Never, Solved}
use Rattle.lf_unification.specs.Unifiers.{Equation, Store}
use Rattle.tw_approx.specs.Answer.{Rows, rows_of}
use Rattle.tw_elaborate.specs.Bodies.{open_body_of}
use Rattle.tw_elaborate.specs.View.{made, numbers_of}
use Rattle.tw_metas.specs.State as metas
use Rattle.tw_metas.specs.View.{equation_of}
use Rattle.tw_abstract.specs.Reading.{IsSettled}
use Rattle.tw_resolve.specs.Resolved.{skeletons_of}
use Rattle.tw_unify.specs.Answers.{Answers, StaysReady}
use Rattle.tw_metas.specs.Named.{shown_type_of}
use Rattle.tw_unify.specs.Outcomes.{Explains}
use Rattle.tw_putting.specs.Ready.{IsReady}
use Rattle.tw_unify.specs.Showing.{BlamesShown, Shows}
use Rattle.tw_putting.specs.Whole.{AreDistinct, whole}
use Rattle.tw_unify.specs.declared.fault.UnifyFault.{UnifyFault}
use Rattle.tw_unify.specs.declared.fault.UnifyFault.TheVariants as unify
use Rattle.tw_metas.specs.declared.left.LeftEquation.{LeftEquation}
use Rattle.tw_unify.specs.declared.solving.Unified.{Unified}
use Rattle.tw_unify.specs.declared.solving.Unified.TheVariants as answer
use Rattle.tw_written.specs.View.{written_body_of}
use Rattle.tw_recon.specs.Begun.{IsBegun, IsLeft, IsSolved}
use Rattle.tw_recon.specs.Causes.{LeavesEquation, Stops, in_equations, in_frees, in_left}
use Rattle.tw_recon.specs.Names.{AreNames, FreeIsDeep, Naming, named_from}
use Rattle.tw_recon.specs.Reconstruction.{IsMade}
use Rattle.tw_recon.specs.declared.begun.Begun.{Begun}
use Rattle.tw_recon.specs.declared.fault.ReconFault.TheVariants.{Mismatch, TooDeep}
use Rattle.tw_recon.proofs.Numbers.{named_distinct}
use Rattle.tw_recon.proofs.Principals.{no_completion}
use Rattle.tw_recon.proofs.Settling.{made_of, ready, same_store}

module _ (es : List Entry) (canonical : IsCanonicalSignature es) (b : Begun) (z : IsBegun es b) where
  abbrev rows : Rows
  rows = rows_of b.rows.items

  abbrev ts : List Skeleton
  ts = skeletons_of rows

  abbrev w : WrittenBody
  w = written_body_of b.written

  abbrev frees : List ℕ
  frees = numbers_of b.elaborated.frees.items

  abbrev body : Body
  body = open_body_of b.elaborated.body

  abbrev store : Store
  store = whole (map equation_of b.elaborated.state.equations.items) b.elaborated.state.store.now

  -- the store is that of what was made
  abbrev same : store ≡ store_of (made b.elaborated.state)
  same = same_store es ts w b.elaborated z

  is_made : IsMade es ts w frees (made b.elaborated.state) body
  is_made = made_of es ts w b.elaborated z

  pub begun_ready : IsReady (signature_of es) (map equation_of b.elaborated.state.equations.items) b.elaborated.state.store.now
  begun_ready = ready es canonical ts w b.elaborated z

  -- at each answer, with the values that the program has then
  pub solved_at : (after : metas.State) (a : Unified) → a ≡ answer.Solved → Answers a (signature_of es) store (whole [] after) → StaysReady a (signature_of es) after → IsSolved es rows w frees body after
  solved_at after a e h k = record {
    state = made b.elaborated.state;
    made = is_made;
    solved = subst (λ x. Solved (signature_of es) x (whole [] after)) same (subst (λ x. Answers x (signature_of es) store (whole [] after)) e h);
    ready = subst (λ x. StaysReady x (signature_of es) after) e k;
  }

  pub left_at : (after : metas.State) (a : Unified) → a ≡ answer.Left → Answers a (signature_of es) store (whole [] after) → StaysReady a (signature_of es) after → IsLeft es rows w frees after
  left_at after a e h k = record {
    state = made b.elaborated.state;
    body = body;
    made = is_made;
    left = subst (λ x. Left (signature_of es) x (whole [] after)) same (subst (λ x. Answers x (signature_of es) store (whole [] after)) e h);
    ready = subst (λ x. StaysReady x (signature_of es) after) e k;
  }

  pub never_at : (after : Store) (a : Unified) → a ≡ answer.Never → Answers a (signature_of es) store after → Stops es rows w Mismatch
  never_at after a e h = no_completion es canonical ts w frees (made b.elaborated.state) body is_made (subst (Never (signature_of es) []) same (subst (λ x. Answers x (signature_of es) store after) e h))

  pub deep_at : (f : UnifyFault) → f ≡ unify.TooDeep → Explains f (signature_of es) store → Stops es rows w TooDeep
  deep_at f e h = in_equations is_made (subst (AreDeep depth_limit (signature_of es)) same (subst (λ x. Explains x (signature_of es) store) e h))

-- The first of the equations that are left.
first_left : (qs : List Equation) → (qs ≡ [] → ⊥) → (e : Equation) × (slice_get qs 0 ≡ Some e)
first_left [] h = absurd (h refl)
first_left (q ∷ qs) h = (q, refl)

-- what is said of it
told : (o : Option Equation) (e : Equation) (P : Equation → Type 0) → IfSome o P → o ≡ Some e → P e
told o e P h g = subst (λ x. IfSome x P) g h

module _ (es : List Entry) (rows : Rows) (w : WrittenBody) (frees : List ℕ) (after : metas.State) (z : IsLeft es rows w frees after) where
  pub left_settled : IsCanonicalSignature es → IsSettled after
  left_settled canonical = record { signature = signature_of es; is_signature = canonical_is_signature es canonical; ready = z.ready }

  pub free_deep : FreeIsDeep after frees → Stops es rows w TooDeep
  free_deep h = in_frees after z.ready.consistent z.made (inr z.left) h

  module _ (order : List ℕ) (o : AreFreesInOrder w (length rows) order) (naming : Naming) (a : AreNames after frees rows order naming) (ns : List (ℕ × List ℕ)) (n : ns ≡ named_from 0 naming.names) where
    pub names_differ : AreDistinct (map (λ k. k.0) ns)
    names_differ = subst (λ l. AreDistinct (map (λ k. k.0) l)) (sym n) (named_distinct 0 naming.names)

    pub left_told : (left : LeftEquation) → IfSome (slice_get after.equations 0) (λ e. Shows after e ns (map shown_type_of left.metas.items) left.names.items (equation_of left.equation)) → LeavesEquation es rows w left
    left_told left h =
        let (e, g) = first_left after.equations (λ p. z.left.some_left p) in
        record {
          frees = frees;
          state = z.state;
          body = z.body;
          made = z.made;
          after = after;
          outcome = z.left;
          consistent = z.ready.consistent;
          order = order;
          in_order = o;
          naming = naming;
          are_names = a;
          first = e;
          is_first = g;
          shows = subst (λ l. Shows after e l (map shown_type_of left.metas.items) left.names.items (equation_of left.equation)) n (told (slice_get after.equations 0) e (λ q. Shows after q ns (map shown_type_of left.metas.items) left.names.items (equation_of left.equation)) h g);
        }

    pub left_deep : (f : UnifyFault) → f ≡ unify.TooDeep → IfSome (slice_get after.equations 0) (λ e. BlamesShown f after e ns) → Stops es rows w TooDeep
    left_deep f t h =
        let (e, g) = first_left after.equations (λ p. z.left.some_left p) in
        in_left after e naming z.ready.consistent z.made z.left o a g (subst (λ l. BlamesShown unify.TooDeep after e l) n (subst (λ x. BlamesShown x after e ns) t (told (slice_get after.equations 0) e (λ q. BlamesShown f after q ns) h g)))

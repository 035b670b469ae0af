-- What is read off a solution, and the entry of it.
use Rattle.std.proofs.Common.{◌≡◌, ℕ, ◌+◌, List, [], ◌∷◌, length, Option, refl, sym, ap, ◌∙◌, subst, ◌⊎◌, inl, inr, arith, length-append}
use Rattle.lf.specs.Depth.{depth_limit}
use Rattle.lf.specs.Entries.{Body, BodyIsTyped, BodyIsWithin, Entry, IsCanonicalEntry, IsCanonicalSignature, body_quantifiers, signature_of}
use Rattle.lf.specs.Syntax.{LfType}
use Rattle.lf.specs.Typing.{Signature}
use Rattle.lf.proofs.Entries.{canonical_is_signature}
use Rattle.lf_elaboration.specs.Principal.{WrittenBody, body_over}
use Rattle.lf_elaboration.specs.Sites.{AreFreesInOrder, AreSites}
use Rattle.lf_elaboration.proofs.Bodies.{principal_stands}
use Rattle.tw_approx.specs.Answer.{Rows}
use Rattle.tw_metas.specs.State as metas
use Rattle.tw_parse.specs.Syntax.{Declaration, Term}
use Rattle.tw_abstract.specs.Causes.{BlamesQuantifiers}
use Rattle.tw_abstract.specs.Quantifiers.{AreQuantifiers, IsContextOf, no_quantifiers, one_inside}
use Rattle.tw_abstract.specs.Reading.{IsSettled}
use Rattle.tw_hered.specs.declared.fault.HeredFault.{HeredFault}
use Rattle.tw_hered.specs.declared.fault.HeredFault.TheVariants as reading
use Rattle.tw_resolve.specs.Resolved.{skeletons_of}
use Rattle.tw_recon.specs.Begun.{IsSolved}
use Rattle.tw_recon.specs.Causes.{BodyReachesDeep, HasCause, Stops, in_body, in_entry, in_frees, in_quantifiers, of_reading}
use Rattle.tw_recon.specs.Hints.{fitted, written_hints}
use Rattle.tw_recon.specs.Names.{AreNames, FreeIsDeep, Naming, names_of, variables_of}
use Rattle.tw_recon.specs.Queries.{HasGoalCause, IsGoalWrittenAs}
use Rattle.tw_recon.specs.Reading.{BodyIsDeep, BodyStands, IsBodyReadAs}
use Rattle.tw_recon.specs.Reconstruction.{AreReadOff, LeavesNothingOut, IsCompletedTo, IsEntryOf, IsWrittenAs}
use Rattle.tw_recon.specs.declared.fault.ReconFault.{ReconFault}
use Rattle.tw_recon.specs.declared.fault.ReconFault.TheVariants.{Leftover, Loose, Mismatch, NoMemory, TooDeep, TypeLevel, Unknown}
use Rattle.tw_abstract.proofs.Contexts.{quantifiers_law, reading_law}
use Rattle.tw_recon.proofs.Completed.{written_mismatch}
use Rattle.tw_recon.proofs.Naming.{names_each}
use Rattle.tw_recon.proofs.Principals.{fitted_length, quantifiers_over, read_is_principal}
use Rattle.tw_recon.proofs.Settling.{body_stands}

-- there are as many quantifiers as metavariables that become such
pub context_each : (s : metas.State) (ms : List ℕ) (G : List LfType) → IsContextOf s ms G → length ms ≡ length G
context_each s ms G no_quantifiers = refl
context_each s ms G (one_inside {ms = ns} m A A' h e p g) = let k = context_each s ns _ h in length-append ns (m ∷ []) ∙ omega (arith, k)

module _ (es : List Entry) (canonical : IsCanonicalSignature es) (rows : Rows) (w : WrittenBody) (frees : List ℕ) (b : Body) (after : metas.State) (z : IsSolved es rows w frees b after) where
  -- the store is settled, and types the body
  pub settled : IsSettled after
  settled = record { signature = signature_of es; is_signature = canonical_is_signature es canonical; ready = z.ready }

  pub stands : BodyStands after b
  stands = body_stands es canonical (skeletons_of rows) w frees z.state b after z.made z.solved z.ready

  -- what reading off blames
  pub quantifiers_blamed : (f : HeredFault) (sites : List ℕ) → AreSites es (skeletons_of rows) w sites → BlamesQuantifiers f after sites → Stops es rows w (of_reading f)
  quantifiers_blamed reading.TooDeep sites s h = in_quantifiers sites after z.ready.consistent z.made z.solved s h
  quantifiers_blamed reading.NoMemory sites s h = tt

  pub body_blamed : (f : HeredFault) → (f ≡ reading.TooDeep → BodyIsDeep after b) → Stops es rows w (of_reading f)
  body_blamed reading.TooDeep h = in_body after z.made z.solved (h refl)
  body_blamed reading.NoMemory h = tt

  pub names_blamed : (f : HeredFault) → (f ≡ reading.TooDeep → FreeIsDeep after frees) → Stops es rows w (of_reading f)
  names_blamed reading.TooDeep h = in_frees after z.ready.consistent z.made (inl z.solved) (h refl)
  names_blamed reading.NoMemory h = tt

  -- what is completed
  pub completed : (sites ms order : List ℕ) (naming : Naming) (hints : List (Option (List ℕ))) (shown : List ℕ) (G : List LfType) (b' : Body) → AreSites es (skeletons_of rows) w sites → AreFreesInOrder w (length rows) order → AreQuantifiers after sites ms G → IsBodyReadAs after ms b b' →
      AreNames after frees rows order naming → hints ≡ names_of naming.names ms → shown ≡ variables_of ms naming.firsts → IsCompletedTo es rows w G hints shown b'
  completed sites ms order naming hints shown G b' s o q r a h k =
      let (vs, p) = read_is_principal quantifiers_law reading_law es canonical (skeletons_of rows) w frees z.state b after z.made z.solved z.ready sites ms G b' q r in
      record {
        frees = vs;
        principal = p;
        in_order = inr (record {
          frees = frees;
          state = z.state;
          open_body = b;
          made = z.made;
          after = after;
          solved = z.solved;
          consistent = z.ready.consistent;
          sites = sites;
          are_sites = s;
          quantifiers = ms;
          are_quantifiers = q;
          body_read = r;
          order = order;
          in_order = o;
          naming = naming;
          are_names = a;
          hints_are = h;
          shown_are = k;
        });
      }

-- each quantifier has its place among the hints
pub hint_each : (es : List Entry) (rows : Rows) (w : WrittenBody) (G : List LfType) (hints : List (Option (List ℕ))) (shown : List ℕ) (b : Body) → IsCompletedTo es rows w G hints shown b → length hints ≡ length G
hint_each es rows w G hints shown b c = from c.in_order
  where
    from : LeavesNothingOut es rows w G hints shown ⊎ AreReadOff es rows w G hints shown b → length hints ≡ length G
    from (inl n) = ap length n.no_hint ∙ sym (ap length n.no_quantifier)
    from (inr r) = ap length r.hints_are ∙ names_each r.naming.names r.quantifiers ∙ context_each r.after r.quantifiers G r.are_quantifiers.context

-- the whole is deep
-- what is completed is typed once it is closed over its quantifiers
pub completed_typed : (es : List Entry) (rows : Rows) (w : WrittenBody) (G : List LfType) (hints : List (Option (List ℕ))) (shown : List ℕ) (b : Body) → IsCompletedTo es rows w G hints shown b
    → BodyIsTyped (signature_of es) (body_over G b)
completed_typed es rows w G hints shown b c = (principal_stands es (skeletons_of rows) w (record { quantifiers = G; frees = c.frees; body = b }) c.principal).0

pub entry_refused : (es : List Entry) (rows : Rows) (w : WrittenBody) (G : List LfType) (hints : List (Option (List ℕ))) (shown : List ℕ) (b : Body) (f : ReconFault) → IsCompletedTo es rows w G hints shown b → (f ≡ TooDeep) ⊎ (f ≡ NoMemory) → (f ≡ TooDeep → BodyReachesDeep (signature_of es) (body_over G b)) → Stops es rows w f
entry_refused es rows w G hints shown b f c (inl t) h = subst (Stops es rows w) (sym t) (in_entry c (h t))
entry_refused es rows w G hints shown b f c (inr n) h = subst (Stops es rows w) (sym n) tt

-- what stops what is written stops the declaration
pub declaration_stops : (es : List Entry) (d : Declaration) (rows : Rows) (w : WrittenBody) (f : ReconFault) → IsWrittenAs es d rows w → Stops es rows w f → HasCause es d f
declaration_stops es d rows w (Unknown name place) i h = absurd h
declaration_stops es d rows w (TypeLevel place) i h = absurd h
declaration_stops es d rows w Loose i h = absurd h
declaration_stops es d rows w Mismatch i h = written_mismatch es d rows w i h
declaration_stops es d rows w (Leftover left) i h = (rows, w, i, h)
declaration_stops es d rows w TooDeep i h = inr (rows, w, i, h)
declaration_stops es d rows w NoMemory i h = tt

pub canonical_entry : (Σ : Signature) (G : List LfType) (b : Body) (d : Declaration) (e : Entry) (hints : List (Option (List ℕ))) → BodyIsTyped Σ e.body → BodyIsWithin depth_limit e.body → length hints ≡ length G → IsEntryOf d G hints b e → IsCanonicalEntry Σ e
canonical_entry Σ G b d e hints t w l i =
    let n : body_quantifiers e.body ≡ length G + body_quantifiers b = ap body_quantifiers i.body ∙ quantifiers_over G b in
    let f = fitted_length (body_quantifiers b) (written_hints d) in
    let m = i.implicit in
    record {
      typed = t;
      within = w;
      implicit_lead = omega (arith, n, m);
      hint_each = ap length i.hints ∙ length-append hints (fitted (body_quantifiers b) (written_hints d)) ∙ omega (arith, n, l, f);
    }

-- and a query
pub goal_stops : (es : List Entry) (A : Term) (rows : Rows) (w : WrittenBody) (f : ReconFault) → IsGoalWrittenAs es A rows w → Stops es rows w f → HasGoalCause es A f
goal_stops es A rows w (Unknown name place) i h = absurd h
goal_stops es A rows w (TypeLevel place) i h = absurd h
goal_stops es A rows w Loose i h = absurd h
goal_stops es A rows w Mismatch i h = inr (rows, w, i, h)
goal_stops es A rows w (Leftover left) i h = (rows, w, i, h)
goal_stops es A rows w TooDeep i h = inr (rows, w, i, h)
goal_stops es A rows w NoMemory i h = tt

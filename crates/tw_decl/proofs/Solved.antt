-- The entry of an answer is canonical.
use Rattle.std.proofs.Common.{◌≡◌, ℕ, zero, suc, ◌+◌, ◌<◌, List, [], ◌∷◌, ◌++◌, inl, inr, length, length-append, map, take, drop, get_or, Option, Some, None, Result, Ok, Err, IfOk, Bool, false, refl, sym, ap, ◌∙◌, subst, arith}
use Rattle.std.specs.Option.{option_map}
use Rattle.lf.specs.Depth.{depth_limit}
use Rattle.lf.specs.Entries.{Body, BodyIsTyped, BodyIsWithin, Entry, IsCanonicalEntry, body_quantifiers, declare_constant, declare_definition, quantifiers}
use Rattle.lf.specs.Subordination.{Member}
use Rattle.lf.specs.Syntax.{LfType, Skeleton, Term, rename_type, skeleton, variable, weaken}
use Rattle.lf.specs.Typing.{IsContext, IsSignature, IsType, Signature, TypeAt}
use Rattle.lf_elaboration.specs.Principal.{body_over}
use Rattle.lf_search.specs.Answers.{IsAnswerOf}
use Rattle.lf_unification.specs.Offering.{pi_over}
use Rattle.tw_abstract.specs.Occurrences.{noted}
use Rattle.tw_abstract.specs.Positions.{index}
use Rattle.tw_abstract.proofs.Choosing.{member_indexed}
use Rattle.tw_abstract.proofs.Lists.{at_below, at_member, index_at, index_below}
use Rattle.tw_names.specs.Texts.{hints}
use Rattle.tw_parse.specs.Queries.{Query}
use Rattle.tw_parse.specs.Syntax as written
use Rattle.tw_recon.specs.Hints.{fitted}
use Rattle.tw_recon.proofs.Closed.{closed_typed}
use Rattle.tw_recon.proofs.Principals.{fitted_length, quantifiers_over}
use Rattle.tw_reorder.specs.Reordered.{AreReordered, AreWithin}
use Rattle.tw_reorder.specs.Waiting.{in_turn, occurring}
use Rattle.tw_reorder.proofs.Orders.{distinct, order_all, order_within}
use Rattle.tw_reorder.proofs.Placing.{below_or_past}
use Rattle.tw_reorder.proofs.Turns.{each_comes, each_within}
use Rattle.tw_reorder.proofs.Typed.{first_within, reordered_typed}
use Rattle.tw_search.specs.Answers.{HasProof, IsIfRead, values_of}
use Rattle.tw_search.specs.declared.answer.Answer.{Answer}
use Rattle.tw_signature.specs.Goal.{Goal}
use Rattle.tw_terms.specs.View.{head_of, term_of}
use Rattle.tw_decl.specs.Solutions.{AreHints, IsAlone, IsSolution, NamedBy, answer_type, solve_query}
use Rattle.tw_decl.proofs.AnswerTypes.{answer_typed}
use Rattle.std.specs.Prelude.{◌↔◌, IsTrue, map as each, slice_get}
use Rattle.lf.specs.Eta.{eta_long}
use Rattle.std.proofs.Math.Seq.{take-suc}
use Rattle.std.proofs.lemmas.List.{map-append}
use Rattle.tw_signature.specs.View.{body_of}
use Rattle.tw_signature.specs.declared.entry.Body.{Body as ProgramBody}
use Rattle.tw_signature.specs.declared.entry.Body.TheVariants.{Constant, Defined, Family}
use Rattle.tw_terms.specs.declared.canonical.Head.TheVariants.{Var}
use Rattle.tw_terms.specs.declared.canonical.MetaId.{MetaId}
use Rattle.tw_terms.specs.declared.canonical.Term.{Term as ProgramTerm}
use Rattle.tw_terms.specs.declared.canonical.Ty.{Ty}

type_there : (F : List LfType) (i : ℕ) → i < length F → (A : LfType) × TypeAt F i A
type_there [] i l = absurd (omega (arith, l))
type_there (B ∷ F) zero l = (weaken B, refl)
type_there (B ∷ F) (suc i) l = let (C, g) = type_there F i (omega (arith, l)) in (weaken C, (C, g, refl))

type_below : (F : List LfType) (i : ℕ) (A : LfType) → TypeAt F i A → i < length F
type_below [] i A g = absurd g
type_below (B ∷ F) zero A g = omega arith
type_below (B ∷ F) (suc i) A (C, g, e) = let h : i < length F = type_below F i C g in omega (arith, h)

-- the order has each variable of the context once
module _ (F : List LfType) (A : LfType) (M : Term) (Ms : List Term) (order : List ℕ) (G : List LfType) (B : LfType) (N : Term) (w : AreWithin F A M Ms) (r : AreReordered F A M Ms order G B N) where
  abbrev found : List ℕ
  found = in_turn F (occurring A M Ms)

  within : (v : ℕ) → Member v (in_turn F (occurring A M Ms)) → v < length F
  within v m = each_within w.signature F w.context (noted [] (occurring A M Ms)) (first_within F A M Ms (noted [] (occurring A M Ms)) w refl) v m

  all : (v : ℕ) → v < length F → Member v (in_turn F (occurring A M Ms))
  all v l = each_comes w.signature F w.context (noted [] (occurring A M Ms)) v l

  too_long : length order < length G → ⊥
  too_long l =
      let (X, g) = type_there G (length order) l in
      let k : r.back (length order) < length F = type_below F (r.back (length order)) (rename_type r.back X) (r.reordered.back (length order) X g) in
      let (j, e) = member_indexed order (r.back (length order)) (order_all w.signature F w.context (in_turn F (occurring A M Ms)) within all order r.in_order (r.back (length order)) k) in
      let p : r.there (r.back (length order)) ≡ j = r.by_order (r.back (length order)) j e in
      let q : r.there (r.back (length order)) ≡ length order = r.reordered.back_and_there (length order) in
      let h : j < length order = index_below order (r.back (length order)) j e in
      omega (arith, p, q, h)

  too_short : length G < length order → ⊥
  too_short l =
      let (v, e) = at_below order (length G) l in
      let m : Member v order = at_member order (length G) v e in
      let f : index order v ≡ Some (length G) = index_at order (length G) v (distinct w.signature F w.context (in_turn F (occurring A M Ms)) within all order r.in_order) e in
      let p : r.there v ≡ length G = r.by_order v (length G) f in
      let (X, g) = type_there F v (order_within w.signature F w.context (in_turn F (occurring A M Ms)) within all order r.in_order v m) in
      let h : r.there v < length G = type_below G (r.there v) (rename_type r.there X) (r.reordered.there v X g) in
      omega (arith, p, h)

  pub order_length : length order ≡ length G
  order_length = elim (below_or_past (length G) (length order)) [
    | inl l ↦ absurd (too_long l)
    | inr l ↦ elim (below_or_past (length order) (length G)) [ inl k ↦ absurd (too_short k) | inr k ↦ omega (arith, l, k) ]
  ]

hint_each : (g : Goal) (a : Answer) (fs : List ℕ) (hs : List (Option (List ℕ))) → AreHints g a fs hs → length hs ≡ length fs
hint_each g a [] [] h = refl
hint_each g a [] (x ∷ hs) h = absurd h
hint_each g a (f ∷ fs) [] h = absurd h
hint_each g a (f ∷ fs) (x ∷ hs) (n, h) = ap suc (hint_each g a fs hs h)

pub solution_canonical : (Σ : Signature) (c : List ℕ) (T : written.Term) (g : Goal) (a : Answer) (e : Entry) (s : IsSolution c T g a e) → AreWithin a.free (answer_type g a) s.answer_proof (each term_of a.values.items) → BodyIsTyped Σ e.body → BodyIsWithin depth_limit e.body → IsCanonicalEntry Σ e
solution_canonical Σ c T g a e s w t d =
    let n : length s.order ≡ length s.context = order_length a.free (answer_type g a) s.answer_proof (each term_of a.values.items) s.order s.context s.of_type s.proof w s.reordered in
    let h : length s.named ≡ length s.order = hint_each g a s.order s.named s.are_hints in
    let q : body_quantifiers e.body ≡ quantifiers (pi_over s.context s.of_type) = ap body_quantifiers s.body in
    let k : quantifiers (pi_over s.context s.of_type) ≡ length s.context + quantifiers s.of_type = quantifiers_over s.context (declare_constant s.of_type) in
    let f = fitted_length (quantifiers s.of_type) (hints T) in
    let l : length e.hints ≡ length s.named + length (fitted (quantifiers s.of_type) (hints T)) = ap length s.hints_are ∙ length-append s.named (fitted (quantifiers s.of_type) (hints T)) in
    record {
      typed = t;
      within = d;
      implicit_lead = omega (arith, s.implicit, q, k);
      hint_each = omega (arith, l, f, h, n, q, k);
    }

-- A body that is seen as a definition's is one.
pub defined_body : (b : ProgramBody) (M : Term) (A : LfType) (k : Bool) → body_of b ≡ declare_definition M A k → ((m : ProgramTerm) (a : Ty) (d : Bool) → b ≡ Defined m a d → ⊥) → ⊥
defined_body (Family K) M A k e n = cc
defined_body (Constant T) M A k e n = cc
defined_body (Defined m a d) M A k e n = n m a d refl

-- one hint more
pub hints_then : (g : Goal) (a : Answer) (fs : List ℕ) (f : ℕ) (hs : List (Option (List ℕ))) (h : Option (List ℕ)) → AreHints g a fs hs → NamedBy g a g.shown f h → AreHints g a (fs ++ f ∷ []) (hs ++ h ∷ [])
hints_then g a [] f [] h r n = (n, tt)
hints_then g a [] f (x ∷ hs) h r n = absurd r
hints_then g a (y ∷ fs) f [] h r n = absurd r
hints_then g a (y ∷ fs) f (x ∷ hs) h (m, r) n = (m, hints_then g a fs f hs h r n)

next_number : (ms : List MetaId) (k : ℕ) (d x : MetaId) → k < length ms → x ≡ get_or ms k d → map (λ (m : MetaId). m.0) (take (k + 1) ms) ≡ map (λ (m : MetaId). m.0) (take k ms) ++ x.0 ∷ []
next_number ms k d x l is =
    let n : suc k ≡ k + 1 = omega arith in
    ap (map (λ (m : MetaId). m.0)) (ap (λ j. take j ms) (sym n) ∙ take-suc ms k d l ∙ ap (λ (y : MetaId). take k ms ++ y ∷ []) (sym is)) ∙ map-append (λ (m : MetaId). m.0) (take k ms) (x ∷ [])

pub next_hint : (g : Goal) (a : Answer) (ms : List MetaId) (k : ℕ) (d x : MetaId) (hs hs' : List (Option (List ℕ))) (h : Option (List ℕ)) → k < length ms → x ≡ get_or ms k d → AreHints g a (map (λ m. m.0) (take k ms)) hs → NamedBy g a g.shown x.0 h → hs' ≡ hs ++ h ∷ []
    → AreHints g a (map (λ m. m.0) (take (k + 1) ms)) hs'
next_hint g a ms k d x hs hs' h l is r n e = subst (λ fs. AreHints g a fs hs') (sym (next_number ms k d x l is)) (subst (AreHints g a (map (λ (m : MetaId). m.0) (take k ms) ++ x.0 ∷ [])) (sym e) (hints_then g a (map (λ (m : MetaId). m.0) (take k ms)) x.0 hs h r n))

-- a variable of the query that doesn't name it
pub passed_over : (g : Goal) (a : Answer) (is rest : List ℕ) (i f : ℕ) (k : ℕ) → drop k is ≡ i ∷ rest → ((h : Option (List ℕ)) → NamedBy g a (drop k is) f h → NamedBy g a is f h) → (IsAlone a i f → ⊥) → (h : Option (List ℕ)) → NamedBy g a rest f h → NamedBy g a is f h
passed_over g a is rest i f k e up out h n = up h (subst (λ js. NamedBy g a js f h) (sym e) (inr (out, n)))

-- the head of a variable
pub alone_head : (s : Skeleton) (f : ℕ) → eta_long s (head_of (Var f)) ≡ eta_long s (variable f)
unfolding head_of
alone_head s f = refl

-- whether a value is a free variable alone
pub alone_by : (a : Answer) (i f : ℕ) (A : LfType) (M E : Term) (b : Bool) → Some A ≡ slice_get a.free f → Some M ≡ slice_get (values_of a) i → E ≡ eta_long (skeleton A) (variable f) → IsTrue b ↔ (M ≡ E) → IsTrue b ↔ IsAlone a i f
alone_by a i f A M E b g v e s = (λ t. (A, sym g, sym v ∙ ap Some (s.0 t ∙ e)), λ (B, h, w). s.1 (same B h w))
  where
    same : (B : LfType) → slice_get a.free f ≡ Some B → slice_get (values_of a) i ≡ Some (eta_long (skeleton B) (variable f)) → M ≡ E
    same B h w =
        let q : A ≡ B = (let z : Some A ≡ Some B = g ∙ h in cc) in
        let p : M ≡ eta_long (skeleton B) (variable f) = (let z : Some M ≡ Some (eta_long (skeleton B) (variable f)) = v ∙ w in cc) in
        p ∙ ap (λ X. eta_long (skeleton X) (variable f)) (sym q) ∙ sym e

-- a definition in the order of its free variables is typed, closed over them
pub reordered_body : (Σ : Signature) (ok : IsSignature Σ) (g : Goal) (a : Answer) (P : Term) (order : List ℕ) (G : List LfType) (B : LfType) (N : Term) (b : Body) → IsContext Σ g.variables → IsType Σ g.variables g.goal → IsAnswerOf Σ g.variables g.goal a.free (values_of a) P
    → AreReordered a.free (answer_type g a) P (each term_of a.values.items) order G B N → b ≡ body_over G (declare_definition N B false) → BodyIsTyped Σ b
reordered_body Σ ok g a P order G B N b c t h r e =
    let (w, v, m) = reordered_typed Σ ok a.free (answer_type g a) P (each term_of a.values.items) order G B N r h.context (answer_typed Σ ok a.free g.variables (values_of a) g.goal P c t h) h.proves in
    closed_typed Σ G (declare_definition N B false) b e w (v, m)

-- a query that names its proof
pub names_proof : (c : List ℕ) (q : Query) → q.proof ≡ Some c → q ≡ solve_query c q.goal
names_proof c q e = ap (λ x. record { proof = x; goal = q.goal }) e

-- the proof that was read is the answer's
pub same_proof : (a : Answer) (P : Term) (M : Term) → option_map term_of a.proof ≡ Some M → HasProof a P → M ≡ P
same_proof a P M e h = subst (λ o. IsIfRead o P) e h

-- two facts about what is answered
pub both : {A E : Type 0} (r : Result A E) (P Q : A → Type 0) → IfOk r P → IfOk r Q → IfOk r (λ x. P x × Q x)
both (Ok x) P Q p q = (p, q)
both (Err e) P Q p q = tt

-- What is typed stays so in another order; and the result of the call.
use Rattle.std.proofs.Common.{◌≡◌, ℕ, ◌+◌, ◌-◌, ◌<◌, List, [], inl, inr, length, map, sym, ap, ◌∙◌, subst, arith}
use mathlib.Core.Path.{fun_ext}
use Rattle.lf.specs.Subordination.{Member}
use Rattle.lf.specs.Syntax.{LfType, Term, rename, rename_type}
use Rattle.lf.specs.Typing.{HasType, IsContext, IsSignature, IsType, Signature}
use Rattle.lf.proofs.Weakening.{renaming_keeps_types, renaming_keeps_typing}
use Rattle.lf_elaboration.specs.Principal.{IsReordering}
use Rattle.lf_search.proofs.Dropping.{reordered_context}
use Rattle.tw_abstract.specs.Occurrences.{noted}
use Rattle.tw_abstract.specs.Order.{IsOrder}
use Rattle.tw_abstract.proofs.Members.{noted_either}
use Rattle.tw_reorder.specs.Moving.{moved, moved_types, or_itself, place_in}
use Rattle.tw_reorder.specs.Reordered.{AreReordered, AreWithin}
use Rattle.tw_reorder.specs.Waiting.{in_turn, occurring, outermost_first, through_types, waiting, waiting_in}
use Rattle.tw_reorder.proofs.Contexts.{is_reordering}
use Rattle.tw_reorder.proofs.Placing.{back}
use Rattle.tw_reorder.proofs.Turns.{each_comes, each_within}

-- the context, the type and the term in the other order
pub reordered_typed : (Σ : Signature) (ok : IsSignature Σ) (F : List LfType) (A : LfType) (M : Term) (Ms : List Term) (order : List ℕ) (G : List LfType) (B : LfType) (N : Term) → AreReordered F A M Ms order G B N
    → IsContext Σ F → IsType Σ F A → HasType Σ F M A → IsContext Σ G × IsType Σ G B × HasType Σ G N B
reordered_typed Σ ok F A M Ms order G B N r c t m = (
  reordered_context Σ ok F G r.there r.back (record { there = r.reordered.there; back = r.reordered.back; there_and_back = r.reordered.there_and_back; back_and_there = r.reordered.back_and_there }) c,
  subst (IsType Σ G) (sym r.type_moved) (renaming_keeps_types Σ ok F G r.there A r.reordered.there t),
  subst (λ X. HasType Σ G N X) (sym r.type_moved) (subst (λ X. HasType Σ G X (rename_type r.there A)) (sym r.term_moved) (renaming_keeps_typing Σ ok F G r.there M A r.reordered.there m)),
)

-- a variable is moved to its place
moved_plainly : (order : List ℕ) → moved order 0 0 ≡ place_in order
moved_plainly order = fun_ext (λ i. let e : i + 0 ≡ i = omega arith in less_nothing (place_in order (i + 0)) ∙ ap (place_in order) e)
  where
    less_nothing : (n : ℕ) → n - 0 ≡ n
    less_nothing n = omega arith

pub all_reordered : (F : List LfType) (A : LfType) (M : Term) (Ms : List Term) (first order : List ℕ) (G : List LfType) (B : LfType) (N : Term) → AreWithin F A M Ms → first ≡ noted [] (occurring A M Ms)
    → IsOrder (map (waiting F) (noted (through_types F (length F) 0 first) (outermost_first (length F)))) order → G ≡ moved_types F order order [] → B ≡ rename_type (moved order 0 0) A → N ≡ rename (moved order 0 0) M → AreReordered F A M Ms order G B N
all_reordered F A M Ms first order G B N w f given context type term =
    let o : IsOrder (waiting_in F A M Ms) order = subst (λ vs. IsOrder (map (waiting F) (noted (through_types F (length F) 0 vs) (outermost_first (length F)))) order) f given in
    record {
      in_order = o;
      there = place_in order;
      back = back w.signature F w.context (in_turn F (occurring A M Ms)) within all order o;
      reordered = subst (λ D. IsReordering F D (place_in order) (back w.signature F w.context (in_turn F (occurring A M Ms)) within all order o)) (sym context) (is_reordering w.signature F w.context (in_turn F (occurring A M Ms)) within all order o);
      by_order = λ v i e. ap (or_itself v) e;
      type_moved = type ∙ ap (λ τ. rename_type τ A) (moved_plainly order);
      term_moved = term ∙ ap (λ τ. rename τ M) (moved_plainly order);
    }
  where
    occurs : (v : ℕ) → Member v (noted [] (occurring A M Ms)) → v < length F
    occurs v m = elim (noted_either [] (occurring A M Ms) v m) [ inl n ↦ absurd n | inr n ↦ w.within v n ]

    within : (v : ℕ) → Member v (in_turn F (occurring A M Ms)) → v < length F
    within v m = each_within w.signature F w.context (noted [] (occurring A M Ms)) occurs v m

    all : (v : ℕ) → v < length F → Member v (in_turn F (occurring A M Ms))
    all v l = each_comes w.signature F w.context (noted [] (occurring A M Ms)) v l

-- the variables that are noted are of the context
pub first_within : (F : List LfType) (A : LfType) (M : Term) (Ms : List Term) (first : List ℕ) → AreWithin F A M Ms → first ≡ noted [] (occurring A M Ms) → (v : ℕ) → Member v first → v < length F
first_within F A M Ms first w f v m = elim (noted_either [] (occurring A M Ms) v (subst (Member v) f m)) [ inl n ↦ absurd n | inr n ↦ w.within v n ]

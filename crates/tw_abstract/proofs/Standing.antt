-- The values can be put into what a settled store types.
use Rattle.std.proofs.Common.{◌≡◌, ℕ, [], Some, refl, sym, subst}
use Rattle.lf.specs.Skeletons.{family_skeletons}
use Rattle.lf.specs.Syntax.{LfType, Term, skeleton}
use Rattle.lf_unification.specs.PartialInstance.{IsFilling}
use Rattle.lf_unification.specs.Patterns.{local_skeletons}
use Rattle.lf_unification.proofs.Putting.{typed_at}
use Rattle.tw_metas.specs.State.{State, value_of}
use Rattle.tw_putting.specs.Fits.{PutFits, PutTypeFits, StoreBySkeletons, TypesCanTake}
use Rattle.tw_putting.specs.Stores.{bindings_of, types_of}
use Rattle.tw_putting.specs.Whole.{whole}
use Rattle.tw_putting.proofs.Readiness.{local_count, ready_values, types_take}
use Rattle.tw_putting.proofs.Skeletons.{term_declared, type_declared}
use Rattle.tw_putting.proofs.Views.{binding_of_value}
use Rattle.tw_abstract.specs.Reading.{IsSettled, TermStands, TypeStands, ValuesCanTake}

pub settled_types : (s : State) → IsSettled s → TypesCanTake s
settled_types s z = types_take z.signature [] s z.ready

pub settled_values : (s : State) → IsSettled s → ValuesCanTake s
settled_values s z m N v =
    let r = z.ready in
    let b = binding_of_value s.bound s.values m N (r.consistent.values_are_bound m N v) v in
    let (B, d, t) = typed_at z.signature [] (types_of s) (IsFilling z.signature [] (whole [] s)) (bindings_of s) r.well_formed.typed.bindings_typed (record { of = m; value = N }) b in
    record {
      signature = z.signature;
      context = [];
      term_skeleton = skeleton B;
      term_typed = term_declared z.signature (types_of s) (IsFilling z.signature [] (whole [] s)) [] N B t;
      store_typed = ready_values z.signature [] s r;
    }

pub term_fits : (s : State) (k : ℕ) (M : Term) → TermStands s k M → PutFits s k M
term_fits s k M z = subst (λ n. PutFits s n M) z.same (record {
  signature = z.settled.signature;
  context = local_skeletons z.local [];
  term_skeleton = skeleton z.of_type;
  term_typed = term_declared z.settled.signature (types_of s) (IsFilling z.settled.signature [] (whole [] s)) z.local M z.of_type z.typed;
  store_typed = subst (λ Γ. StoreBySkeletons z.settled.signature Γ s) (sym (local_count z.local)) (ready_values z.settled.signature [] s z.settled.ready);
})

pub type_fits : (s : State) (k : ℕ) (A : LfType) → TypeStands s k A → PutTypeFits s k A
type_fits s k A z = subst (λ n. PutTypeFits s n A) z.same (record {
  families = family_skeletons z.settled.signature;
  signature = z.settled.signature;
  context = local_skeletons z.local [];
  type_typed = type_declared z.settled.signature (types_of s) (IsFilling z.settled.signature [] (whole [] s)) z.local A z.typed;
  store_typed = subst (λ Γ. StoreBySkeletons z.settled.signature Γ s) (sym (local_count z.local)) (ready_values z.settled.signature [] s z.settled.ready);
})

-- the types and the values of metavariables stand
pub declared_stands : (s : State) → IsSettled s → (m : ℕ) (A : LfType) → types_of s m ≡ Some A → TypeStands s 0 A
declared_stands s z m A d = record { settled = z; local = []; same = refl; typed = z.ready.well_formed.typed.declarations_typed.metavariables_typed m A d }

pub value_stands : (s : State) → IsSettled s → (m : ℕ) (N : Term) → value_of s m ≡ Some N → TermStands s 0 N
value_stands s z m N v =
    let r = z.ready in
    let b = binding_of_value s.bound s.values m N (r.consistent.values_are_bound m N v) v in
    let (B, d, t) = typed_at z.signature [] (types_of s) (IsFilling z.signature [] (whole [] s)) (bindings_of s) r.well_formed.typed.bindings_typed (record { of = m; value = N }) b in
    record { settled = z; local = []; of_type = B; same = refl; typed = t }

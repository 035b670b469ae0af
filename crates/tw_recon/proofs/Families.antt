-- A declared family has just the quantifiers of its text.
use Rattle.std.proofs.Common.{◌≡◌, ℕ, suc, List, [], ◌∷◌, ◌++◌, drop, length, Option, None, Some, refl, sym, ap, ◌∙◌, subst, arith}
use Rattle.lf.specs.Entries.{Body, Entry, body_quantifiers, declare_constant, declare_definition, declare_family, kind_quantifiers}
use Rattle.lf.specs.Syntax.{Kind, LfType, Skeleton, kind_pi, rename_kind, star}
use Rattle.lf_elaboration.specs.Completions.{FreeValue, kind_arrow_completed, kind_quantified_completed, star_completed}
use Rattle.lf_elaboration.specs.Kinds.{kind_over}
use Rattle.lf_elaboration.specs.Principal.{CompletesBody, WrittenBody, body_over, written_family}
use Rattle.lf_elaboration.specs.Written as written
use Rattle.lf_elaboration.specs.Written.{WrittenDomain, WrittenKind, WrittenType, written_star}
use Rattle.tw_approx.specs.Readings.{Reading, and_then}
use Rattle.tw_fixity.specs.Names.{Names}
use Rattle.tw_names.specs.Scope.{binder_name}
use Rattle.tw_names.specs.Texts.{hints}
use Rattle.tw_parse.specs.Syntax.{Term, application, arrow, ascription, hole, identifier, lambda, pi, star as type_star}
use Rattle.tw_resolve.specs.Resolved.{classifier_read, names_of, taken_whole, with_one}
use Rattle.tw_resolve.specs.Resolving.{made, resolved_domain, resolved_kind, resolved_type, with_both}
use Rattle.tw_written.specs.View.{place_of}
use Rattle.tw_recon.specs.Families.{CompletedKindIsAsWritten, FamilyIsAsWritten, written_quantifiers}
use Rattle.tw_recon.specs.Hints.{fitted}
use Rattle.tw_recon.proofs.Entering.{hint_each}
use Rattle.tw_recon.proofs.Principals.{kind_quantifiers_over}

renamed_quantifiers : (ρ : ℕ → ℕ) (K : Kind) → kind_quantifiers (rename_kind ρ K) ≡ kind_quantifiers K
renamed_quantifiers ρ (kind_pi A K) = ap suc (renamed_quantifiers _ K)
renamed_quantifiers ρ star = refl

pub completed_kind : CompletedKindIsAsWritten
completed_kind es F vs D written_star star star_completed = refl
completed_kind es F vs D written_star (kind_pi A K) h = elim h [ ]
completed_kind es F vs D (written.kind_arrow U k) star h = elim h [ ]
completed_kind es F vs D (written.kind_quantified d k) star h = elim h [ ]
completed_kind es F vs D (written.kind_arrow U k) (kind_pi A K') (kind_arrow_completed {K = K} a h) = ap suc (renamed_quantifiers suc K ∙ completed_kind es F vs D k K h)
completed_kind es F vs D (written.kind_quantified d k) (kind_pi A K) (kind_quantified_completed a h) = ap suc (completed_kind es F vs (A ∷ D) k K h)

-- what is read, and what is left of the list
abbrev value_or : {A : Type 0} → A → Reading A → A
value_or a None = a
value_or a (Some (b, o)) = b

abbrev left_over : {A : Type 0} → Reading A → List Skeleton
left_over None = []
left_over (Some (b, o)) = o

-- two readings, of which both are there
record BothRead {A B C : Type 0} (make : A → B → C) (r : Reading A) (f : List Skeleton → Reading B) (c : C) (o : List Skeleton) : Type 0 where
  one : A
  other : B
  middle : List Skeleton
  first : r ≡ Some (one, middle)
  second : f middle ≡ Some (other, o)
  whole : c ≡ make one other

-- the second of them, behind the first
second_read : {A B C : Type 0} (make : A → B → C) (a : A) (p : List Skeleton) (f : List Skeleton → Reading B) (q : Reading B) (c : C) (o : List Skeleton) → f p ≡ q → and_then q (made make a) ≡ Some (c, o) → BothRead make (Some (a, p)) f c o
second_read make a p f None c o s e = absurd cc
second_read make a p f (Some (b, n)) c o s e =
    record { one = a; other = b; middle = p; first = refl; second = s ∙ ap (λ m. Some (b, m)) (ap left_over e); whole = sym (ap (value_or c) e) }

both_read : {A B C : Type 0} (make : A → B → C) (r : Reading A) (f : List Skeleton → Reading B) (c : C) (o : List Skeleton) → with_both (made make) r f ≡ Some (c, o) → BothRead make r f c o
both_read make None f c o e = absurd cc
both_read make (Some (a, p)) f c o e = second_read make a p f (f p) c o refl e

not_read : (r : Reading WrittenKind) (k : WrittenKind) (p : List Skeleton) → r ≡ None → r ≡ Some (k, p) → ⊥
not_read r k p n e = cc

-- a kind is resolved with the quantifiers of its text
module _ (es : List Entry) (free : Names) where
  resolved_quantifiers : (N : Names) (U : Term) (o p : List Skeleton) (k : WrittenKind) → resolved_kind es free N U o ≡ Some (k, p) → written_quantifiers k ≡ length (hints U)
  resolved_quantifiers N type_star o p k e = ap written_quantifiers (sym (ap (value_or k) e))
  resolved_quantifiers N (arrow U V) o p k e =
      let b = both_read written.kind_arrow (resolved_type es free N U o) (resolved_kind es free N V) k p e in
      ap written_quantifiers b.whole ∙ ap suc (resolved_quantifiers N V b.middle p b.other b.second)
  resolved_quantifiers N (pi x at D V) o p k e =
      let b = both_read written.kind_quantified (resolved_domain es free N (place_of at) D o) (resolved_kind es free (binder_name x ∷ N) V) k p e in
      ap written_quantifiers b.whole ∙ ap suc (resolved_quantifiers (binder_name x ∷ N) V b.middle p b.other b.second)
  resolved_quantifiers N (identifier x at) o p k e = absurd (not_read None k p refl e)
  resolved_quantifiers N (hole at) o p k e = absurd (not_read None k p refl e)
  resolved_quantifiers N (lambda x at D M) o p k e = absurd (not_read None k p refl e)
  resolved_quantifiers N (application M P) o p k e = absurd (not_read None k p refl e)
  resolved_quantifiers N (ascription M A) o p k e = absurd (not_read None k p refl e)

-- what is written is a kind
record IsWrittenFamily (r : Reading WrittenKind) (w : WrittenBody) : Type 0 where
  kind : WrittenKind
  read : r ≡ Some (kind, [])
  same : w ≡ written_family kind

written_kind : (r : Reading WrittenKind) (w : WrittenBody) → taken_whole (with_one written_family r) ≡ Some w → IsWrittenFamily r w
written_kind None w e = absurd cc
written_kind (Some (k, [])) w e = record { kind = k; read = refl; same = cc }
written_kind (Some (k, s ∷ o)) w e = absurd cc

record IsCompletedFamily (k : WrittenKind) (b : Body) : Type 0 where
  kind : Kind
  same : b ≡ declare_family kind
  quantifiers : kind_quantifiers kind ≡ written_quantifiers k

completed_family : (es : List Entry) (F : List LfType) (vs : List FreeValue) (k : WrittenKind) (b : Body) → CompletesBody es F vs (written_family k) b → IsCompletedFamily k b
completed_family es F vs k (declare_family K) h = record { kind = K; same = refl; quantifiers = completed_kind es F vs [] k K h }
completed_family es F vs k (declare_constant A) h = absurd h
completed_family es F vs k (declare_definition M A c) h = absurd h

fitted_all : (hs : List (Option (List ℕ))) → fitted (length hs) hs ≡ hs
fitted_all [] = refl
fitted_all (h ∷ hs) = ap (λ ks. h ∷ ks) (fitted_all hs)

dropped : {X : Type 0} (xs ys : List X) → drop (length xs) (xs ++ ys) ≡ ys
dropped [] ys = refl
dropped (x ∷ xs) ys = dropped xs ys

pub family : FamilyIsAsWritten
family es c at U e t r =
    let free : Names = names_of r.rows in
    let k = written_kind (resolved_kind es free [] U r.is_written.omitted) r.written (subst (λ b. taken_whole (classifier_read es free [] b U r.is_written.omitted) ≡ Some r.written) t r.is_written.resolved) in
    let p = r.completed.principal.completion in
    let f = completed_family es r.quantifiers r.completed.frees k.kind r.inner (subst (λ w. CompletesBody es r.quantifiers r.completed.frees w r.inner) k.same p.completed) in
    let n : kind_quantifiers f.kind ≡ length (hints U) = f.quantifiers ∙ resolved_quantifiers es free [] U r.is_written.omitted [] k.kind k.read in
    let i = r.is_entry.implicit in
    let l = hint_each es r.rows r.written r.quantifiers r.quantifier_hints r.shown r.inner r.completed in
    record {
      kind = kind_over r.quantifiers f.kind;
      is_family = r.is_entry.body ∙ ap (body_over r.quantifiers) f.same;
      quantifiers = kind_quantifiers_over r.quantifiers f.kind ∙ omega (arith, n, i);
      names =
          ap (λ m. drop m e.hints) (i ∙ sym l) ∙ ap (drop (length r.quantifier_hints)) (r.is_entry.hints ∙ ap (λ m. r.quantifier_hints ++ fitted m (hints U)) (ap body_quantifiers f.same ∙ n) ∙ ap (λ ks. r.quantifier_hints ++ ks) (fitted_all (hints U)))
          ∙ dropped r.quantifier_hints (hints U);
    }

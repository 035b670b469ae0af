-- What is read of what is declared or in scope, and of families.
use Rattle.std.proofs.Common.{◌≡◌, ◌≢◌, ℕ, zero, suc, List, [], ◌∷◌, ◌++◌, map, slice_get, option_map, Bool, true, false, Option, None, Some, ◌⊎◌, inl, inr, if◌then◌else◌, arith, refl, sym, ap, ◌∙◌, subst}
use Rattle.std.proofs.lemmas.List.{append-nil}
use Rattle.std.proofs.lemmas.Option.{slice_get-map}
use Rattle.lf.specs.Entries.{Entry, entry}
use Rattle.lf.specs.Syntax.{Skeleton, base as base_skeleton, arrow as arrow_skeleton, Head, constant, variable as bound}
use Rattle.tw_approx.specs.Reading.{shape_from, due_of, is_none_due, family_at, IsRead, ReadsFamily, NameIsRead, FamilyNameIsRead, EquatesAll, UnifiesAll}
use Rattle.tw_approx.specs.Readings.{take, found, and_then}
use Rattle.tw_approx.specs.Skeletons.{Frees, known, unknown, same_skeleton, same_skeletons, entry_skeleton, family_named, family_applied, family_ascribed, whole}
use Rattle.tw_approx.specs.Walks.{Assignment, Readings, State, HasVariable, SameBelow, ShapesWithin, filled_all, IsSound, Reads, ReadsShape, Refuses, Nothing, with_store}
use Rattle.tw_approx.specs.declared.family.FamilyShape.{FamilyShape}
use Rattle.tw_approx.specs.declared.family.FamilyShape.TheVariants.{Known, Unknown}
use Rattle.tw_approx.specs.declared.family.Due.{Due}
use Rattle.tw_names.specs.Unknown.{is_uppercase}
use Rattle.tw_shapes.specs.Shapes.{Shape, base, filled, IsWithin, Store, count_of, Solves, AddsEquation}
use Rattle.tw_shapes.specs.View.{shape_of}
use Rattle.tw_shapes.specs.declared.shape.Shape as program
use Rattle.tw_approx.proofs.Assigning.{filled_below, all_below, shape_more, shapes_more}
use Rattle.tw_approx.proofs.Sequences.{given, parts_of, made_reads}
use Rattle.tw_approx.proofs.Unifying.{nothing_more, equal_skeletons, equal_lists, lists_same, equal_solutions, narrowed_reads, narrowed_refuses}

-- A reading that is another one.
pub reads_as : {A : Type 0} (R Q : Readings A) (F : List ℕ → Type 0) (s t : State) (v : Assignment → A) → ((f : Frees) (θ : Assignment) (o : List Skeleton) → Q f θ o ≡ R f θ o) → Reads R F s t v → Reads Q F s t v
reads_as R Q F s t v e r = record {
  names = r.names;
  context = r.context;
  count = r.count;
  sound = r.sound;
  kept = r.kept;
  agrees = r.agrees;
  free = r.free;
  more = r.more;
  added = r.added;
  stable = r.stable;
  reads = λ f θ o h g. e f θ (map θ r.more ++ o) ∙ r.reads f θ o h g;
  every = λ f θ p k q h g i. r.every f θ p k q h g (sym (e f θ p) ∙ i);
}

pub refuses_as : {A : Type 0} (R Q : Readings A) (s : State) → ((f : Frees) (θ : Assignment) (o : List Skeleton) → Q f θ o ≡ R f θ o) → Refuses R s → Refuses Q s
refuses_as R Q s e r = record { never = λ f θ p k q h g i. r.never f θ p k q h g (sym (e f θ p) ∙ i) }

-- with free variables that are none
pub free_as : {A : Type 0} (R : Readings A) (F E : List ℕ → Type 0) (s t : State) (v : Assignment → A) → ((x : List ℕ) → F x → ⊥) → ((x : List ℕ) → E x → ⊥) → Reads R F s t v → Reads R E s t v
free_as R F E s t v absent never r = record {
  names = r.names;
  context = r.context;
  count = r.count;
  sound = r.sound;
  kept = r.kept;
  agrees = r.agrees;
  free = λ x. (
    λ h. elim ((r.free x).0 h) as (λ _. HasVariable x s.variables ⊎ E x) [ inl a ↦ inl a | inr b ↦ absurd (absent x b) ],
    λ d. elim d as (λ _. HasVariable x t.variables) [ inl a ↦ (r.free x).1 (inl a) | inr b ↦ absurd (never x b) ],
  );
  more = r.more;
  added = r.added;
  stable = r.stable;
  reads = r.reads;
  every = r.every;
}

-- a value that takes nothing
pub value_reads : {A : Type 0} (w : Assignment → A) (s : State) → IsSound s → ((θ ρ : Assignment) → SameBelow (count_of s.store) θ ρ → w θ ≡ w ρ) → Reads (λ f θ o. Some (w θ, o)) Nothing s s w
value_reads w s h stable = record {
  names = refl;
  context = refl;
  count = omega arith;
  sound = h;
  kept = λ θ g. g;
  agrees = λ f θ g. g;
  free = λ x. nothing_more;
  more = [];
  added = sym (append-nil s.omitted);
  stable = stable;
  reads = λ f θ o g a. refl;
  every = λ f θ p k q g a e. let t = parts_of (w θ) k p q e in (θ, λ m lt. refl, g, a, t.1, sym t.0);
}

pub none_refuses : {A : Type 0} (s : State) → Refuses {A = A} (λ f θ o. None) s
none_refuses s = record { never = λ f θ p k q h g e. cc }

-- a shape without variables
pub filled_closed : (θ : Assignment) (k : Skeleton) → filled θ (shape_from k) ≡ k
filled_closed θ (base_skeleton a) = refl
filled_closed θ (arrow_skeleton k l) = let a = filled_closed θ k in let b = filled_closed θ l in cc (a, b)

pub within_closed : (n : ℕ) (k : Skeleton) → IsWithin n (shape_from k)
within_closed n (base_skeleton a) = tt
within_closed n (arrow_skeleton k l) = (within_closed n k, within_closed n l)

pub all_closed : (θ : Assignment) (ks : List Skeleton) → filled_all θ (map shape_from ks) ≡ ks
all_closed θ [] = refl
all_closed θ (k ∷ ks) = let a = filled_closed θ k in let b = all_closed θ ks in cc (a, b)

pub all_within_closed : (n : ℕ) (ks : List Skeleton) → ShapesWithin n (map shape_from ks)
all_within_closed n [] = tt
all_within_closed n (k ∷ ks) = (within_closed n k, all_within_closed n ks)

-- a constant or a definition
pub constant_read : (o : Option program.Shape) (r : Option Skeleton) (s : State) → IsSound s → option_map shape_of o ≡ option_map shape_from r → IsRead (λ f θ. found r) Nothing s s o
constant_read None None s h e = none_refuses s
constant_read None (Some k) s h e = absurd cc
constant_read (Some S) None s h e = absurd cc
constant_read (Some S) (Some k) s h e =
    let t : shape_of S ≡ shape_from k = cc in
    subst (ReadsShape (λ f θ o. Some (k, o)) Nothing s s) (sym t) (record {
      reading = reads_as (λ f θ o. Some (filled θ (shape_from k), o)) (λ f θ o. Some (k, o)) Nothing s s (λ θ. filled θ (shape_from k)) (λ f θ o. ap (λ l. given l o) (sym (filled_closed θ k))) (value_reads (λ θ. filled θ (shape_from k)) s h (λ θ ρ e. filled_closed θ k ∙ sym (filled_closed ρ k)));
      within = within_closed (count_of s.store) k;
    })

-- the same read where there are no free variables
pub read_free : (R : Readings Skeleton) (F E : List ℕ → Type 0) (s t : State) (o : Option program.Shape) → ((x : List ℕ) → F x → ⊥) → ((x : List ℕ) → E x → ⊥) → IsRead R F s t o → IsRead R E s t o
read_free R F E s t None absent never r = r
read_free R F E s t (Some S) absent never r = record { reading = free_as R F E s t (λ θ. filled θ (shape_of S)) absent never r.reading; within = r.within }

pub constant_named : (es : List Entry) (s : State) (x : List ℕ) (h : Option Head) (c : ℕ) (o : Option program.Shape) → h ≡ Some (constant c) → IsSound s → option_map shape_of o ≡ option_map shape_from (entry_skeleton (entry es c)) → NameIsRead es s s x h o
constant_named es s x h c o e sound r =
    subst (λ i. NameIsRead es s s x i o) (sym e)
    (read_free (λ f θ. found (entry_skeleton (entry es c))) Nothing (λ y. (x ≡ y) × (is_uppercase x ≡ true) × (Some (constant c) ≡ None)) s s o (λ y n. n) (λ y n. let u : Some (constant c) ≡ None = n.2 in cc) (constant_read o (entry_skeleton (entry es c)) s sound r))

within_at : (n : ℕ) (G : List Shape) (i : ℕ) (S : Shape) → slice_get G i ≡ Some S → ShapesWithin n G → IsWithin n S
within_at n [] i S e w = absurd cc
within_at n (T ∷ G) zero S e (w, v) = let t : T ≡ S = cc in subst (IsWithin n) t w
within_at n (T ∷ G) (suc i) S e (w, v) = within_at n G i S e v

scoped_read : (s : State) (i : ℕ) (o : Option program.Shape) (r : Option Shape) → IsSound s → slice_get s.context i ≡ r → option_map shape_of o ≡ r → IsRead (λ f θ. found (slice_get (filled_all θ s.context) i)) Nothing s s o
scoped_read s i None None h g e = refuses_as (λ f θ o. None) (λ f θ. found (slice_get (filled_all θ s.context) i)) s (λ f θ o. ap (λ r. found r o) (slice_get-map (filled θ) s.context i ∙ ap (option_map (filled θ)) g)) (none_refuses s)
scoped_read s i None (Some S) h g e = absurd cc
scoped_read s i (Some S) None h g e = absurd cc
scoped_read s i (Some S) (Some T) h g e =
    let t : shape_of S ≡ T = cc in
    let w = within_at (count_of s.store) s.context i T g h.context in
    subst (ReadsShape (λ f θ. found (slice_get (filled_all θ s.context) i)) Nothing s s) (sym t) (record {
      reading = reads_as (λ f θ o. Some (filled θ T, o)) (λ f θ. found (slice_get (filled_all θ s.context) i)) Nothing s s (λ θ. filled θ T) (λ f θ o. ap (λ r. found r o) (slice_get-map (filled θ) s.context i ∙ ap (option_map (filled θ)) g)) (value_reads (λ θ. filled θ T) s h (λ θ ρ e. filled_below (count_of s.store) θ ρ T w e));
      within = w;
    })

pub variable_named_reads : (es : List Entry) (s : State) (x : List ℕ) (h : Option Head) (i : ℕ) (o : Option program.Shape) → h ≡ Some (bound i) → IsSound s → option_map shape_of o ≡ slice_get s.context i → NameIsRead es s s x h o
variable_named_reads es s x h i o e sound r =
    subst (λ j. NameIsRead es s s x j o) (sym e)
    (read_free (λ f θ. found (slice_get (filled_all θ s.context) i)) Nothing (λ y. (x ≡ y) × (is_uppercase x ≡ true) × (Some (bound i) ≡ None)) s s o (λ y n. n) (λ y n. let u : Some (bound i) ≡ None = n.2 in cc) (scoped_read s i o (slice_get s.context i) sound refl r))

pub free_named : (es : List Entry) (s t : State) (x : List ℕ) (h : Option Head) (o : Option program.Shape) → h ≡ None → NameIsRead [] s t x None o → NameIsRead es s t x h o
free_named es s t x h o e r = subst (λ j. NameIsRead es s t x j o) (sym e) r

-- a family by its name
pub family_name_reads : (es : List Entry) (s : State) (x : List ℕ) (h : Option Head) (c : ℕ) (ks : List Skeleton) (d : Due) (S : program.Shape) → h ≡ Some (constant c) → family_named es (Some (constant c)) ≡ Some (known ks (base_skeleton c))
    → due_of d ≡ map shape_from ks → shape_of S ≡ base c → IsSound s → FamilyNameIsRead es s x h (Some (Known d S))
family_name_reads es s x h c ks d S e f g b sound =
    let G : FamilyShape = Known d S in
    let at : (θ : Assignment) → family_at G θ ≡ known ks (base_skeleton c) = λ θ. ap (λ Ss. known (filled_all θ Ss) (filled θ (shape_of S))) g ∙ ap (λ k. known k (filled θ (shape_of S))) (all_closed θ ks) ∙ ap (λ T. known ks (filled θ T)) b in
    subst (λ j. FamilyNameIsRead es s x j (Some G)) (sym e) (record {
      reading = free_as (λ f θ. found (family_named es (Some (constant c)))) Nothing (λ y. (x ≡ y) × (is_uppercase x ≡ true) × (Some (constant c) ≡ None)) s s (family_at G) (λ y n. n) (λ y n. let u : Some (constant c) ≡ None = n.2 in cc)
          (reads_as (λ f θ o. Some (family_at G θ, o)) (λ f θ. found (family_named es (Some (constant c)))) Nothing s s (family_at G) (λ f' θ o. ap (λ r. found r o) f ∙ ap (λ F. given F o) (sym (at θ))) (value_reads (family_at G) s sound (λ θ ρ i. at θ ∙ sym (at ρ))));
      within = (subst (ShapesWithin (count_of s.store)) (sym g) (all_within_closed (count_of s.store) ks), subst (IsWithin (count_of s.store)) (sym b) tt);
    })

-- families that are whole
pub known_whole_reads : (s : State) (d : Due) (S : program.Shape) → due_of d ≡ [] → IsSound s → IsWithin (count_of s.store) (shape_of S) → ReadsShape (λ f θ. whole (family_at (Known d S) θ)) Nothing s s (shape_of S)
known_whole_reads s d S e h w = record {
  reading = reads_as (λ f θ o. Some (filled θ (shape_of S), o)) (λ f θ. whole (family_at (Known d S) θ)) Nothing s s (λ θ. filled θ (shape_of S)) (λ f θ o. ap (λ Ss. whole (known (filled_all θ Ss) (filled θ (shape_of S))) o) e) (value_reads (λ θ. filled θ (shape_of S)) s h (λ θ ρ i. filled_below (count_of s.store) θ ρ (shape_of S) w i));
  within = w;
}

pub due_refuses_whole : (s : State) (d : Due) (S : program.Shape) (T : Shape) (Ss : List Shape) → due_of d ≡ T ∷ Ss → Refuses (λ f θ. whole (family_at (Known d S) θ)) s
due_refuses_whole s d S T Ss e = refuses_as (λ f θ o. None) (λ f θ. whole (family_at (Known d S) θ)) s (λ f θ o. ap (λ Us. whole (known (filled_all θ Us) (filled θ (shape_of S))) o) e) (none_refuses s)

pub unknown_whole_reads : (s : State) (S : program.Shape) → IsSound s → IsWithin (count_of s.store) (shape_of S) → ReadsShape (λ f θ. whole (family_at (Unknown S) θ)) Nothing s s (shape_of S)
unknown_whole_reads s S h w = record { reading = value_reads (λ θ. filled θ (shape_of S)) s h (λ θ ρ i. filled_below (count_of s.store) θ ρ (shape_of S) w i); within = w }

-- a family on an argument
known_at : (s : State) (d : Due) (S : program.Shape) → ShapesWithin (count_of s.store) (due_of d) → IsWithin (count_of s.store) (shape_of S) → (θ ρ : Assignment) → SameBelow (count_of s.store) θ ρ → family_at (Known d S) θ ≡ family_at (Known d S) ρ
known_at s d S w v θ ρ e = ap (λ ks. known ks (filled θ (shape_of S))) (all_below (count_of s.store) θ ρ (due_of d) w e) ∙ ap (known (filled_all ρ (due_of d))) (filled_below (count_of s.store) θ ρ (shape_of S) v e)

pub argument_reads : (s : State) (store : Store) (d rest : Due) (E U : Shape) (S : program.Shape) → due_of d ≡ E ∷ due_of rest → IsSound s → ShapesWithin (count_of s.store) (due_of d) → IsWithin (count_of s.store) (shape_of S) → AddsEquation s.store store E U
    → ReadsFamily (λ f θ. family_applied (family_at (Known d S) θ) (filled θ U)) Nothing s (with_store store s) (Known rest S)
argument_reads s store d rest E U S e h w v u =
    let tail = (subst (ShapesWithin (count_of s.store)) e w).1 in
    record {
      reading = reads_as (λ f θ o. if same_skeleton (filled θ E) (filled θ U) then Some (family_at (Known rest S) θ, o) else None) (λ f θ. family_applied (family_at (Known d S) θ) (filled θ U)) Nothing s (with_store store s) (family_at (Known rest S))
          (λ f θ o. ap (λ Ss. family_applied (known (filled_all θ Ss) (filled θ (shape_of S))) (filled θ U) o) e)
          (narrowed_reads (λ θ. same_skeleton (filled θ E) (filled θ U)) (family_at (Known rest S)) s store h u.count (equal_solutions s.store store E U u) (known_at s rest S tail v));
      within = (shapes_more (count_of s.store) (count_of store) (due_of rest) (omega (arith, u.count)) tail, shape_more (count_of s.store) (count_of store) (shape_of S) (omega (arith, u.count)) v);
    }

pub argument_refuses : (s : State) (d rest : Due) (E U : Shape) (S : program.Shape) → due_of d ≡ E ∷ due_of rest → ((θ : Assignment) → Solves θ s.store → filled θ E ≢ filled θ U) → Refuses (λ f θ. family_applied (family_at (Known d S) θ) (filled θ U)) s
argument_refuses s d rest E U S e never =
    refuses_as (λ f θ o. if same_skeleton (filled θ E) (filled θ U) then Some (family_at (Known rest S) θ, o) else None) (λ f θ. family_applied (family_at (Known d S) θ) (filled θ U)) s (λ f θ o. ap (λ Ss. family_applied (known (filled_all θ Ss) (filled θ (shape_of S))) (filled θ U) o) e)
    (narrowed_refuses (λ θ. same_skeleton (filled θ E) (filled θ U)) (family_at (Known rest S)) s (λ θ g t. never θ g (equal_skeletons (filled θ E) (filled θ U) t)))

pub nothing_due_refuses : (s : State) (d : Due) (U : Shape) (S : program.Shape) → due_of d ≡ [] → Refuses (λ f θ. family_applied (family_at (Known d S) θ) (filled θ U)) s
nothing_due_refuses s d U S e = refuses_as (λ f θ o. None) (λ f θ. family_applied (family_at (Known d S) θ) (filled θ U)) s (λ f θ o. ap (λ Ss. family_applied (known (filled_all θ Ss) (filled θ (shape_of S))) (filled θ U) o) e) (none_refuses s)

pub unknown_argument_reads : (s t : State) (R U : Shape) (S : program.Shape) → IsWithin (count_of s.store) (shape_of S) → ReadsShape (λ f θ. take) Nothing s t R → ReadsFamily (λ f θ. family_applied (family_at (Unknown S) θ) (filled θ U)) Nothing s t (Unknown S)
unknown_argument_reads s t R U S w r = record {
  reading = made_reads (λ f θ. take) (λ θ any. unknown (filled θ (shape_of S))) Nothing s t (λ θ. filled θ R) (λ θ ρ any e. ap unknown (filled_below (count_of s.store) θ ρ (shape_of S) w e)) r.reading;
  within = shape_more (count_of s.store) (count_of t.store) (shape_of S) r.reading.count w;
}

-- a family and its kind
pub kind_reads : (s : State) (store : Store) (d : Due) (Ts : List Shape) (S : program.Shape) → IsSound s → ShapesWithin (count_of s.store) (due_of d) → IsWithin (count_of s.store) (shape_of S) → EquatesAll s.store store (due_of d) Ts
    → ReadsFamily (λ f θ. family_ascribed (family_at (Known d S) θ) (filled_all θ Ts)) Nothing s (with_store store s) (Known d S)
kind_reads s store d Ts S h w v u = record {
  reading = narrowed_reads (λ θ. same_skeletons (filled_all θ (due_of d)) (filled_all θ Ts)) (family_at (Known d S)) s store h u.count
      (λ θ. (λ g. let p = (u.solutions θ).0 g in (p.0, lists_same (filled_all θ (due_of d)) (filled_all θ Ts) p.1), λ g. (u.solutions θ).1 (g.0, equal_lists (filled_all θ (due_of d)) (filled_all θ Ts) g.1))) (known_at s d S w v);
  within = (shapes_more (count_of s.store) (count_of store) (due_of d) (omega (arith, u.count)) w, shape_more (count_of s.store) (count_of store) (shape_of S) (omega (arith, u.count)) v);
}

pub kind_refuses : (s : State) (d : Due) (Ts : List Shape) (S : program.Shape) → ((θ : Assignment) → Solves θ s.store → filled_all θ (due_of d) ≡ filled_all θ Ts → ⊥) → Refuses (λ f θ. family_ascribed (family_at (Known d S) θ) (filled_all θ Ts)) s
kind_refuses s d Ts S never = narrowed_refuses (λ θ. same_skeletons (filled_all θ (due_of d)) (filled_all θ Ts)) (family_at (Known d S)) s (λ θ g e. never θ g (equal_lists (filled_all θ (due_of d)) (filled_all θ Ts) e))

-- what unifying all of two lists answered
pub all_unified : (old new : Store) (Ss Ts : List Shape) (b : Bool) → b ≡ true → UnifiesAll old new Ss Ts b → EquatesAll old new Ss Ts
all_unified old new Ss Ts true e u = u
all_unified old new Ss Ts false e u = absurd cc

pub not_all_unified : (old new : Store) (Ss Ts : List Shape) (b : Bool) → b ≡ false → UnifiesAll old new Ss Ts b → (θ : Assignment) → Solves θ old → filled_all θ Ss ≡ filled_all θ Ts → ⊥
not_all_unified old new Ss Ts true e u = absurd cc
not_all_unified old new Ss Ts false e u = u

-- a hole that has its kind
pub unknown_type_reads : (s : State) (d : Due) (S : program.Shape) → due_of d ≡ [] → IsSound s → IsWithin (count_of s.store) (shape_of S) → ReadsFamily (λ f θ. family_ascribed (family_at (Unknown S) θ) (filled_all θ (due_of d))) Nothing s s (Known d S)
unknown_type_reads s d S e h w =
    let v = subst (ShapesWithin (count_of s.store)) (sym e) tt in
    record {
      reading = reads_as (λ f θ o. Some (family_at (Known d S) θ, o)) (λ f θ. family_ascribed (family_at (Unknown S) θ) (filled_all θ (due_of d))) Nothing s s (family_at (Known d S))
          (λ f θ o. ap (λ Ss. family_ascribed (unknown (filled θ (shape_of S))) (filled_all θ Ss) o) e ∙ ap (λ Ss. given (known (filled_all θ Ss) (filled θ (shape_of S))) o) (sym e)) (value_reads (family_at (Known d S)) s h (known_at s d S v w));
      within = (v, w);
    }

pub unknown_kind_reads : (s t : State) (R : Shape) (d : Due) (T : Shape) (Ts : List Shape) (S : program.Shape) → due_of d ≡ T ∷ Ts → ShapesWithin (count_of s.store) (due_of d) → IsWithin (count_of s.store) (shape_of S) → ReadsShape (λ f θ. take) Nothing s t R
    → ReadsFamily (λ f θ. family_ascribed (family_at (Unknown S) θ) (filled_all θ (due_of d))) Nothing s t (Known d S)
unknown_kind_reads s t R d T Ts S e v w r = record {
  reading = reads_as (λ f θ o. and_then (take o) (λ any p. Some (family_at (Known d S) θ, p))) (λ f θ. family_ascribed (family_at (Unknown S) θ) (filled_all θ (due_of d))) Nothing s t (family_at (Known d S))
      (λ f θ o. ap (λ Ss. family_ascribed (unknown (filled θ (shape_of S))) (filled_all θ Ss) o) e ∙ ap (λ Ss. and_then (take o) (λ any p. given (known (filled_all θ Ss) (filled θ (shape_of S))) p)) (sym e))
      (made_reads (λ f θ. take) (λ θ any. family_at (Known d S) θ) Nothing s t (λ θ. filled θ R) (λ θ ρ any i. known_at s d S v w θ ρ i) r.reading);
  within = (shapes_more (count_of s.store) (count_of t.store) (due_of d) r.reading.count v, shape_more (count_of s.store) (count_of t.store) (shape_of S) r.reading.count w);
}

pub none_due : (Ss : List Shape) → is_none_due Ss ≡ true → Ss ≡ []
none_due [] e = refl
none_due (S ∷ Ss) e = absurd cc

pub some_due : (Ss : List Shape) → is_none_due Ss ≡ false → (T : Shape) × (Ts : List Shape) × (Ss ≡ T ∷ Ts)
some_due [] e = absurd cc
some_due (S ∷ Ss) e = (S, Ss, refl)

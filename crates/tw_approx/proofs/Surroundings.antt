-- Names and shapes in scope.
use Rattle.std.proofs.Common.{◌≡◌, ℕ, List, ◌∷◌, drop, Option, sym, ap, subst}
use Rattle.lf.specs.Syntax.{Skeleton}
use Rattle.tw_approx.specs.Readings.{Reading}
use Rattle.tw_approx.specs.Skeletons.{Frees}
use Rattle.tw_approx.specs.Walks.{Assignment, Readings, State, ShapesWithin, filled_all, IsSound, Reads, Refuses, inside, outside}
use Rattle.tw_fixity.specs.Names.{Names}
use Rattle.tw_shapes.specs.Shapes.{Shape, filled, IsWithin, count_of}

-- what is read where these variables are in scope
abbrev pub Placed : Type 0 → Type 0
Placed A = Frees → Assignment → Names → List Skeleton → List Skeleton → Reading A

-- at a state, and under one more variable
abbrev pub at_state : {A : Type 0} → Placed A → State → Readings A
at_state P s f θ = P f θ s.names (filled_all θ s.context)

abbrev pub at_inside : {A : Type 0} → Placed A → Option (List ℕ) → Shape → State → Readings A
at_inside P x S s f θ = P f θ (x ∷ s.names) (filled θ S ∷ filled_all θ s.context)

pub beside_reads : {A : Type 0} (P : Placed A) (F : Names → List ℕ → Type 0) (s t u : State) (v : Assignment → A)
    → t.names ≡ s.names → t.context ≡ s.context → Reads (at_state P t) (F t.names) t u v → Reads (at_state P s) (F s.names) t u v
beside_reads P F s t u v n g r =
    subst (λ N. Reads (λ f θ. P f θ N (filled_all θ s.context)) (F N) t u v) n
    (subst (λ G. Reads (λ f θ. P f θ t.names (filled_all θ G)) (F t.names) t u v) g r)

pub beside_refuses : {A : Type 0} (P : Placed A) (s t : State) → t.names ≡ s.names → t.context ≡ s.context → Refuses (at_state P t) t → Refuses (at_state P s) t
beside_refuses P s t n g r =
    subst (λ N. Refuses (λ f θ. P f θ N (filled_all θ s.context)) t) n
    (subst (λ G. Refuses (λ f θ. P f θ t.names (filled_all θ G)) t) g r)

-- the same where one more variable is in scope
pub beside_inside_reads : {A : Type 0} (P : Placed A) (F : Names → List ℕ → Type 0) (x : Option (List ℕ)) (S : Shape) (s t u : State) (v : Assignment → A)
    → t.names ≡ s.names → t.context ≡ s.context → Reads (at_inside P x S t) (F (x ∷ t.names)) t u v → Reads (at_inside P x S s) (F (x ∷ s.names)) t u v
beside_inside_reads P F x S s t u v n g r =
    subst (λ N. Reads (λ f θ. P f θ (x ∷ N) (filled θ S ∷ filled_all θ s.context)) (F (x ∷ N)) t u v) n
    (subst (λ G. Reads (λ f θ. P f θ (x ∷ t.names) (filled θ S ∷ filled_all θ G)) (F (x ∷ t.names)) t u v) g r)

pub beside_inside_refuses : {A : Type 0} (P : Placed A) (x : Option (List ℕ)) (S : Shape) (s t : State)
    → t.names ≡ s.names → t.context ≡ s.context → Refuses (at_inside P x S t) t → Refuses (at_inside P x S s) t
beside_inside_refuses P x S s t n g r =
    subst (λ N. Refuses (λ f θ. P f θ (x ∷ N) (filled θ S ∷ filled_all θ s.context)) t) n
    (subst (λ G. Refuses (λ f θ. P f θ (x ∷ t.names) (filled θ S ∷ filled_all θ G)) t) g r)

-- a state with one more variable in scope is sound
pub inside_sound : (x : Option (List ℕ)) (S : Shape) (s : State) → IsSound s → IsWithin (count_of s.store) S → IsSound (inside x S s)
inside_sound x S s h w = record { context = (w, h.context); variables = h.variables; omitted = h.omitted; differ = h.differ }

outside_sound : (S : Shape) (G : List Shape) (u : State) → u.context ≡ S ∷ G → IsSound u → IsSound (outside u)
outside_sound S G u e h = record {
  context = subst (λ (H : List Shape). ShapesWithin (count_of u.store) (drop 1 H)) (sym e) ((subst (ShapesWithin (count_of u.store)) e h.context).1);
  variables = h.variables;
  omitted = h.omitted;
  differ = h.differ;
}

-- what is read inside is read, seen from outside
pub outside_reads : {A : Type 0} (R : Readings A) (F : List ℕ → Type 0) (x : Option (List ℕ)) (S : Shape) (t u : State) (v : Assignment → A) → Reads R F (inside x S t) u v → Reads R F t (outside u) v
outside_reads R F x S t u v r = record {
  names = ap (drop 1) r.names;
  context = ap (drop 1) r.context;
  count = r.count;
  sound = outside_sound S t.context u r.context r.sound;
  kept = r.kept;
  agrees = r.agrees;
  free = r.free;
  more = r.more;
  added = r.added;
  stable = r.stable;
  reads = r.reads;
  every = r.every;
}

pub outside_refuses : {A : Type 0} (R : Readings A) (x : Option (List ℕ)) (S : Shape) (t : State) → Refuses R (inside x S t) → Refuses R t
outside_refuses R x S t r = record { never = r.never }

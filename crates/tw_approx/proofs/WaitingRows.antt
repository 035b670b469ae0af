-- Rows of arguments that wait, each for the next one.
use Rattle.std.proofs.Common.{◌≡◌, List, [], ◌∷◌, ◌++◌, Bor, None, Some, Vec, Global, refl, sym, ap, ◌∙◌, subst}
use Rattle.std.proofs.lemmas.List.{map-append}
use Rattle.lf.specs.Entries.{Entry}
use Rattle.tw_approx.specs.Names.{IsFreeIn}
use Rattle.tw_approx.specs.Reading.{state_of}
use Rattle.tw_approx.specs.ReadingRows.{IsApplying, IsBegun, IsResumed}
use Rattle.tw_approx.specs.Skeletons.{term_skeleton}
use Rattle.tw_approx.specs.Walks.{State, filled_all, IsSound, Refuses, ReadsShape}
use Rattle.tw_approx.specs.declared.chains.ArgumentRow.{ArgumentRow}
use Rattle.tw_approx.specs.declared.walk.Walk.{Walk}
use Rattle.tw_parse.specs.Applied.{applied_to, written_terms}
use Rattle.tw_parse.specs.Syntax.{Term, application}
use Rattle.tw_parse.specs.View.{term_of}
use Rattle.tw_parse.specs.declared.term.ExtTerm.{ExtTerm}
use Rattle.tw_parse.proofs.Spines.{applied_to-push}
use Rattle.tw_shapes.specs.Shapes.{Shape, IsWithin, count_of}
use Rattle.tw_shapes.specs.View.{shape_of}
use Rattle.tw_approx.proofs.Assigning.{shape_more}
use Rattle.tw_approx.proofs.Forms.{application_reads, application_refuses, application_refuses_argument, arguments_refuse}

module _ (es : List Entry) where
  -- a term is read, from s to t, and has this shape; it has no reading from s
  abbrev IsReadAs : Term → State → State → Shape → Type 0
  IsReadAs M s t S = ReadsShape (λ f θ. term_skeleton es f s.names (filled_all θ s.context) M) (λ y. IsFreeIn es y s.names M) s t S

  abbrev IsRefused : Term → State → Type 0
  IsRefused M s = Refuses (λ f θ. term_skeleton es f s.names (filled_all θ s.context) M) s

  -- the row r is W, from s, and waits for P, from t
  abbrev pub WaitsFor : ArgumentRow → Term → State → Term → State → Type 0
  WaitsFor r W s P t = IsApplying es s t W (written_terms r.arguments.items ++ P ∷ []) (shape_of r.function)

  -- the first row is W, from s, and the last one waits for P, from t
  abbrev pub Wait : List ArgumentRow → Term → State → Term → State → Type 0
  Wait [] W s P t = (W ≡ P) × (s ≡ t)
  Wait (r ∷ rs) W s P t = (Q : Term) × (u : State) × WaitsFor r W s Q u × Wait rs Q u P t

  one_more_waits : (rs : List ArgumentRow) (r : ArgumentRow) (W Q P : Term) (s u t : State) → Wait rs W s Q u → WaitsFor r Q u P t → Wait (rs ++ r ∷ []) W s P t
  one_more_waits [] r W Q P s u t (e, f) w = (P, t, subst (λ F. WaitsFor r F s P t) (sym e) (subst (λ v. WaitsFor r Q v P t) (sym f) w), (refl, refl))
  one_more_waits (q ∷ qs) r W Q P s u t (V, v, x, xs) w = (V, v, x, one_more_waits qs r V Q P v u t xs w)

  last_waits : (rs : List ArgumentRow) (r : ArgumentRow) (W P : Term) (s t : State) → Wait (rs ++ r ∷ []) W s P t → (Q : Term) × (u : State) × Wait rs W s Q u × WaitsFor r Q u P t
  last_waits [] r W P s t (Q, u, w, (e, f)) = (W, s, (refl, refl), subst (λ F. WaitsFor r W s F t) e (subst (λ v. WaitsFor r W s Q v) f w))
  last_waits (q ∷ qs) r W P s t (V, v, x, xs) = let (Q, u, y, w) = last_waits qs r V P v t xs in (Q, u, (V, v, x, y), w)

  -- the argument that a row waits for
  next_is : (T P W : Term) (Ps : List Term) → applied_to T (Ps ++ P ∷ []) ≡ W → applied_to (application T P) Ps ≡ W
  next_is T P W Ps e = sym (applied_to-push T P Ps) ∙ e

  refused_argument : (r : ArgumentRow) (W P : Term) (s t : State) → IsSound s → WaitsFor r W s P t → IsRefused P t → IsRefused W s
  refused_argument r W P s t sound (T, e, one) two =
      let Ps = written_terms r.arguments.items in
      subst (λ X. IsRefused X s) (next_is T P W Ps e) (arguments_refuse es s sound (application T P) Ps (application_refuses_argument es s sound T P t (shape_of r.function) one two))

  -- what has no reading in the last row gives the first one none
  waiting_refused : (rs : List ArgumentRow) (W P : Term) (s t : State) → IsSound s → Wait rs W s P t → IsRefused P t → IsRefused W s
  waiting_refused [] W P s t sound (e, f) d = subst (λ X. IsRefused X s) (sym e) (subst (λ v. IsRefused P v) (sym f) d)
  waiting_refused (r ∷ rs) W P s t sound (Q, u, (T, e, one), xs) d =
      refused_argument r W Q s u sound (T, e, one) (waiting_refused rs Q P u t one.reading.sound xs d)

  waiting_sound : (rs : List ArgumentRow) (W P : Term) (s t : State) → IsSound s → Wait rs W s P t → IsSound t
  waiting_sound [] W P s t sound (e, f) = subst IsSound f sound
  waiting_sound (r ∷ rs) W P s t sound (Q, u, (T, e, one), xs) = waiting_sound rs Q P u t one.reading.sound xs

  -- the rows rs wait, and the row that the last of them waits for is read up to t
  pub record RowsOf (rs : List ArgumentRow) (row : ArgumentRow) (W : Term) (s t : State) : Type 0 where
    pub inner : Term
    pub begin : State
    pub waits : Wait rs W s inner begin
    pub reached : IsApplying es begin t inner (written_terms row.arguments.items) (shape_of row.function)

  -- the rows rs wait, and the row that the last of them waits for waits for P, from t
  pub record Asks (rs : List ArgumentRow) (row : ArgumentRow) (W : Term) (s : State) (P : Term) (t : State) : Type 0 where
    pub inner : Term
    pub begin : State
    pub waits : Wait rs W s inner begin
    pub asks : WaitsFor row inner begin P t

  pub first_row : (rs : List ArgumentRow) (row : ArgumentRow) (W : Term) (s t : State) → rs ≡ [] → IsBegun es s t W (Some row) → RowsOf rs row W s t
  first_row rs row W s t e b = record { inner = W; begin = s; waits = subst (λ qs. Wait qs W s W s) (sym e) (refl, refl); reached = b }

  pub rows_stay : (qs rs : Vec ArgumentRow Global) (row next : ArgumentRow) (v w : Walk) (W : Term) (s : State) → v ≡ w → qs ≡ rs → row ≡ next → RowsOf rs.items next W s (state_of w) → RowsOf qs.items row W s (state_of v)
  rows_stay qs rs row next v w W s e f g k =
      subst (λ x. RowsOf qs.items row W s (state_of x)) (sym e) (subst (λ (x : Vec ArgumentRow Global). RowsOf x.items row W s (state_of w)) (sym f) (subst (λ x. RowsOf rs.items x W s (state_of w)) (sym g) k))

  module _ {rs : List ArgumentRow} {row : ArgumentRow} {W : Term} {s t : State} (k : RowsOf rs row W s t) where
    pub rows_sound : IsSound t
    rows_sound = k.reached.2.reading.sound

    pub row_within : IsWithin (count_of t.store) (shape_of row.function)
    row_within = k.reached.2.within

    pub next_asked : (rest : ArgumentRow) (a : Bor ExtTerm) → row.arguments.items ≡ rest.arguments.items ++ a ∷ [] → rest.function ≡ row.function → Asks rs rest W s (term_of a.now) t
    next_asked rest a e f = record {
      inner = k.inner;
      begin = k.begin;
      waits = k.waits;
      asks = subst (λ S. IsApplying es k.begin t k.inner (written_terms rest.arguments.items ++ term_of a.now ∷ []) S) (ap shape_of (sym f))
          (subst (λ Ps. IsApplying es k.begin t k.inner Ps (shape_of row.function)) (ap written_terms e ∙ map-append (λ (x : Bor ExtTerm). term_of x.now) rest.arguments.items (a ∷ [])) k.reached);
    }

    -- all arguments of the row are read
    whole_row : row.arguments.items ≡ [] → IsReadAs k.inner k.begin t (shape_of row.function)
    whole_row e =
        let is : k.reached.0 ≡ k.inner = ap (λ xs. applied_to k.reached.0 (written_terms xs)) (sym e) ∙ k.reached.1 in
        subst (λ M. IsReadAs M k.begin t (shape_of row.function)) is k.reached.2

    pub last_row : rs ≡ [] → row.arguments.items ≡ [] → IsReadAs W s t (shape_of row.function)
    last_row e f =
        let (g, h) = subst (λ qs. Wait qs W s k.inner k.begin) e k.waits in
        subst (λ M. IsReadAs M s t (shape_of row.function)) (sym g) (subst (λ v. IsReadAs k.inner v t (shape_of row.function)) (sym h) (whole_row f))

    -- the row that waits for this one
    pub outer_asked : (qs : List ArgumentRow) (outer : ArgumentRow) → rs ≡ qs ++ outer ∷ [] → row.arguments.items ≡ [] → (P : Term) × (u : State) × Asks qs outer W s P u × IsReadAs P u t (shape_of row.function)
    outer_asked qs outer e f =
        let (Q, u, w, x) = last_waits qs outer W k.inner s k.begin (subst (λ xs. Wait xs W s k.inner k.begin) e k.waits) in
        (k.inner, k.begin, record { inner = Q; begin = u; waits = w; asks = x }, whole_row f)

  module _ {rs : List ArgumentRow} {row : ArgumentRow} {W P : Term} {s t : State} (k : Asks rs row W s P t) where
    pub asked_sound : IsSound t
    asked_sound = k.asks.2.reading.sound

    -- a row is begun
    pub row_asked : (qs : List ArgumentRow) (next : ArgumentRow) (u : State) → qs ≡ rs ++ row ∷ [] → IsBegun es t u P (Some next) → RowsOf qs next W s u
    row_asked qs next u e b = record {
      inner = P;
      begin = t;
      waits = subst (λ xs. Wait xs W s P t) (sym e) (one_more_waits rs row W k.inner P s k.begin t k.waits k.asks);
      reached = b;
    }

    pub asked_refused : IsSound s → IsRefused P t → IsRefused W s
    asked_refused sound d =
        waiting_refused rs W k.inner s k.begin sound k.waits (refused_argument row k.inner P k.begin t (waiting_sound rs W k.inner s k.begin sound k.waits) k.asks d)

    module _ {u : State} {U : Shape} (one : IsReadAs P t u U) where
      pub function_within : IsWithin (count_of u.store) (shape_of row.function)
      function_within = shape_more (count_of t.store) (count_of u.store) (shape_of row.function) one.reading.count k.asks.2.within

      module _ (sound : IsSound s) where
        begin_sound : IsSound k.begin
        begin_sound = waiting_sound rs W k.inner s k.begin sound k.waits

        -- the row on the argument
        pub argument_taken : (w : State) (next : ArgumentRow) → IsResumed u w row U (Some next) → RowsOf rs next W s w
        argument_taken w next (two, e) =
            let (T, is, read) = k.asks in
            let Ps = written_terms row.arguments.items in
            let reached : IsApplying es k.begin w k.inner Ps (shape_of next.function) = (application T P, next_is T P k.inner Ps is, application_reads es k.begin begin_sound T P t u w (shape_of row.function) U (shape_of next.function) read one two) in
            record {
              inner = k.inner;
              begin = k.begin;
              waits = k.waits;
              reached = subst (λ (v : Vec (Bor ExtTerm) Global). IsApplying es k.begin w k.inner (written_terms v.items) (shape_of next.function)) (sym e) reached;
            }

        pub argument_refused : (w : State) → IsResumed u w row U None → IsRefused W s
        argument_refused w two =
            let (T, is, read) = k.asks in
            let Ps = written_terms row.arguments.items in
            waiting_refused rs W k.inner s k.begin sound k.waits (subst (λ X. IsRefused X k.begin) (next_is T P k.inner Ps is) (arguments_refuse es k.begin begin_sound (application T P) Ps (application_refuses es k.begin begin_sound T P t u (shape_of row.function) U read one two)))

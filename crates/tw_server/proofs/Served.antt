-- How a run is put together of its turns.
use Rattle.std.proofs.Common.{◌≡◌, ℕ, zero, suc, ◌+◌, ◌<◌, ◌≤◌, List, [], ◌∷◌, ◌++◌, length, take, drop, get_or, take-append-drop, take_all, refl, sym, ap, ◌∙◌, arith, subst, append-nil, append_assoc, true, inl, inr, Ok, Err, None, Some, map}
use Rattle.std.proofs.lemmas.List.{length-map}
use Rattle.std.specs.List.{flat_map, AllByRecursion}
use Rattle.std.specs.declared.option.Option.{Option}
use Rattle.std.specs.declared.result.Result.{Result}
use Rattle.std.specs.Io.KnownBytes.{Consumes, prepend_known}
use Rattle.std.proofs.KnownBytes.{Consumes-nil}
use Rattle.tw_ports.specs.Files.{Held}
use Rattle.tw_ports.specs.Ports.{Gains}
use Rattle.tw_ports.proofs.Gained.{Gains-nil, Gains-trans, Gains-same}
use Rattle.tw_words.specs.Words.{Answers, AreWords, AreBad}
use Rattle.tw_words.specs.declared.words.WordsFault.{WordsFault}
use Rattle.tw_words.specs.declared.words.WordsFault.TheVariants.{Bad}
use Rattle.tw_server.specs.Written.{GainsFront}
use Rattle.tw_server.specs.State.{State}
use Rattle.tw_server.specs.Feed.{Pending, Sees}
use Rattle.tw_server.specs.Replies.{banner, usage}
use Rattle.tw_server.specs.Loaded.{IsLoaded}
use Rattle.tw_decl.specs.View.{IsSound}
use Rattle.tw_server.specs.Machine.{Step, Run, Turn, Loads, Opening}
use Rattle.tw_server.specs.Outcome.{Ends, AreGoodWords, IsCut, IsCutOpening, Ran, RanTo, Outcome, Serves, with_words}
use Rattle.tw_server.specs.Turns.{Commanded, IsCutAt, Moves, OpenedSoFar, RanSoFar, TurnOf}
use Rattle.tw_server.specs.declared.status.Status.{Status}
use Rattle.tw_server.specs.declared.status.Status.TheVariants.{Done, BadWords, ReadFault, WriteFault, NoMemory, InputLong}
use Rattle.tw_server.specs.Phases.{Phase, a_command}
use Rattle.tw_server.specs.Playing.{IsPhase}
use Rattle.tw_server.specs.declared.phase.Phase.{Phase as Kept}
use Rattle.tw_server.specs.declared.phase.Phase.TheVariants as kept
use Rattle.tw_server.proofs.Sound.{step_sound, last_sound, loads_sound, replies_sound, words_sound}
use Rattle.tw_server.proofs.Seen.{Sees-nil, Sees-trans, Sees-same}

-- a run goes on by a step
run_more : (held : Option Held) (p : Phase) (v : State) (ts : List Turn) (q : Phase) (u : State) (t : Turn) → Run held p v ts q u → Step held true q u t.took t.reply t.next t.after → Run held p v (ts ++ t ∷ []) t.next t.after
run_more held p v [] q u t r s = (subst (λ x. Step held true x v t.took t.reply t.next t.after) r.0 (subst (λ x. Step held true q x t.took t.reply t.next t.after) r.1 s), (refl, refl))
run_more held p v (x ∷ xs) q u t r s = (r.0, run_more held x.next x.after xs q u t r.1 s)

-- and the files that are loaded by one
opening_more : (held : Option Held) (names : List (List ℕ)) (v : State) (ts : List Turn) (u : State) (name : List ℕ) (t : Turn) → Opening held names v ts u → t.took ≡ [] → t.next ≡ a_command → Loads held name u t.reply t.after → Opening held (names ++ name ∷ []) v (ts ++ t ∷ []) t.after
opening_more held [] v [] u name t o e n l = (e, n, subst (λ x. Loads held name x t.reply t.after) o l, refl)
opening_more held [] v (x ∷ xs) u name t o e n l = absurd o
opening_more held (f ∷ fs) v [] u name t o e n l = absurd o
opening_more held (f ∷ fs) v (x ∷ xs) u name t o e n l = (o.0, o.1, o.2, opening_more held fs x.after xs u name t o.3 e n l)

flat_more : (f : Turn → List ℕ) (ts : List Turn) (t : Turn) → flat_map f (ts ++ t ∷ []) ≡ flat_map f ts ++ f t
flat_more f [] t = append-nil (f t)
flat_more f (x ∷ xs) t = ap (λ (l : List ℕ). f x ++ l) (flat_more f xs t) ∙ sym (append_assoc (f x) (flat_map f xs) (f t))

-- before the first turn
pub so_far_nil : (held : Option Held) (left written : Option (List ℕ)) (v : State) (feed : Pending) (k : Kept) → feed ≡ record { held = []; seen = 0 } → k ≡ kept.Command → RanSoFar held left left written written v feed k v
so_far_nil held left written v feed k e c = record {
  turns = [];
  next = a_command;
  is_next = subst (λ (x : Kept). IsPhase v.view.signature x a_command) (sym c) tt;
  run = (refl, refl);
  sees = subst (λ (f : Pending). Sees (record { held = []; seen = 0 }) left f left []) (sym e) (Sees-nil _ left);
  gains = Gains-nil written;
}

-- after one turn more
pub so_far_more : {held : Option Held} {left lb lc written wb wc : Option (List ℕ)} {v u w : State} {b c : Pending} {k : Kept} (n : Kept) (i : RanSoFar held left lb written wb v b k u)
    → Moves b lb c lc wb wc (λ took last. TurnOf held lc c (Ok n) i.next u took last w) → RanSoFar held left lc written wc v c n w
so_far_more {held = held} {written = written} {wb = wb} {wc = wc} {v = v} {u = u} {w = w} n i m =
    let t : Turn = record { took = m.took; reply = m.last; next = m.outcome.0; after = w } in
    record {
      turns = i.turns ++ t ∷ [];
      next = m.outcome.0;
      is_next = m.outcome.1;
      run = run_more held a_command v i.turns i.next u t i.run m.outcome.2;
      sees = Sees-same (Sees-trans i.sees m.sees) (sym (flat_more (λ x. x.took) i.turns t));
      gains = Gains-same written wc _ _ (sym (flat_more (λ x. x.reply) i.turns t)) (Gains-trans written wb wc _ _ i.gains m.gains);
    }

-- what was held at the end was taken too
taken_all : (left left' : Option (List ℕ)) (held bytes : List ℕ) → Consumes (prepend_known [] left) (prepend_known held left') bytes → Consumes left left' (bytes ++ held)
taken_all None left' held bytes h = tt
taken_all (Some xs) None held bytes h = absurd h
taken_all (Some xs) (Some ys) held bytes h = h ∙ sym (append_assoc bytes held ys)

-- the last turn ends the run
pub commanded : {held : Option Held} {left lb lc written wb wc : Option (List ℕ)} {v u w : State} {b c : Pending} {k : Kept} (status : Status) (i : RanSoFar held left lb written wb v b k u)
    → Moves b lb c lc wb wc (λ took last. TurnOf held lc c (Err status) i.next u took last w) → Commanded held left lc written wc v status w
commanded {held = held} {left = left} {lc = lc} {written = written} {wb = wb} {wc = wc} {u = u} {w = w} {c = c} status i m =
    let front = flat_map (λ x. x.took) i.turns in
    let s = Sees-trans i.sees m.sees in
    let looked : c.seen ≡ length (front ++ m.took) = omega (arith, s.counted) in
    record {
      turns = i.turns;
      phase = i.next;
      mid = u;
      tail = m.took;
      last = m.last;
      ahead = c.held;
      run = i.run;
      ends = subst (λ (n : ℕ). Ends held lc status i.next u m.took m.last w c.held n) looked m.outcome;
      consumed = taken_all left lc c.held (front ++ m.took) s.first;
      gains = Gains-trans written wb wc _ _ i.gains m.gains;
      within = let k = m.within in omega (arith, s.counted);
    }

-- the steps of a run keep the signature canonical
run_sound : (held : Option Held) (p : Phase) (v : State) (ts : List Turn) (q : Phase) (u : State) → Run held p v ts q u → IsSound v.view → AllByRecursion (λ t. IsSound t.after.view) ts × IsSound u.view
run_sound held p v [] q u r s = (tt, subst (λ (x : State). IsSound x.view) (sym r.1) s)
run_sound held p v (t ∷ ts) q u r s =
    let k = step_sound held true p t.next v t.after t.took t.reply r.0 s in
    let rest = run_sound held t.next t.after ts q u r.1 k in
    ((k, rest.0), rest.1)

-- and so do the files that are loaded
opening_sound : (held : Option Held) (names : List (List ℕ)) (v : State) (ts : List Turn) (u : State) → Opening held names v ts u → IsSound v.view → AllByRecursion (λ t. IsSound t.after.view) ts × IsSound u.view
opening_sound held [] v [] u o s = (tt, subst (λ (x : State). IsSound x.view) (sym o) s)
opening_sound held [] v (t ∷ ts) u o s = absurd o
opening_sound held (name ∷ names) v [] u o s = absurd o
opening_sound held (name ∷ names) v (t ∷ ts) u o s =
    let k = loads_sound held name v t.after t.reply o.2 s in
    let rest = opening_sound held names t.after ts u o.3 k in
    ((k, rest.0), rest.1)

-- and so does the end of a run
ends_sound : (held : Option Held) (left : Option (List ℕ)) (status : Status) (phase : Phase) (v w : State) (tail last ahead : List ℕ) (looked : ℕ) → Ends held left status phase v tail last w ahead looked → IsSound v.view → IsSound w.view
ends_sound held left Done phase v w tail last ahead looked (inl quit) s = subst (λ (x : State). IsSound x.view) (sym quit.3) s
ends_sound held left Done phase v w tail last ahead looked (inr step) s = last_sound held phase v w tail last step.0 s
ends_sound held left ReadFault phase v w tail last ahead looked h s = subst (λ (x : State). IsSound x.view) (sym h.0.same) s
ends_sound held left InputLong phase v w tail last ahead looked h s = subst (λ (x : State). IsSound x.view) (sym h.0.same) s
ends_sound held left WriteFault phase v w tail last ahead looked h s = replies_sound held h.whole phase v w tail h.reply h.step s
ends_sound held left NoMemory phase v w tail last ahead looked h s = absurd h
ends_sound held left BadWords phase v w tail last ahead looked h s = absurd h

outcome_of : (held : Option Held) (words : List (List ℕ)) (left : Option (List ℕ)) (status : Status) (phase : Phase) (v u w : State) (taken gained tail last ahead : List ℕ) (looked : ℕ) → Ends held left status phase u tail last w ahead looked
    → RanTo held words left status v taken gained w → Outcome held words left status v taken gained w
outcome_of held words left Done phase v u w taken gained tail last ahead looked e r = r
outcome_of held words left ReadFault phase v u w taken gained tail last ahead looked e r = r
outcome_of held words left InputLong phase v u w taken gained tail last ahead looked e r = r
outcome_of held words left WriteFault phase v u w taken gained tail last ahead looked e r = inr (inr (inr r))
outcome_of held words left NoMemory phase v u w taken gained tail last ahead looked e r = absurd e
outcome_of held words left BadWords phase v u w taken gained tail last ahead looked e r = absurd e

-- no file was loaded yet
pub opened_nil : (held : Option Held) (v : State) (written : Option (List ℕ)) → OpenedSoFar held [] v written written v
opened_nil held v written = record { turns = []; opening = refl; gains = Gains-nil written }

-- one file more was loaded
pub opened_next : (E : Type 0) (held : Option Held) (names : List (List ℕ)) (name : List ℕ) (v u w : State) (a b c : Option (List ℕ)) (done : Unit {0}) → OpenedSoFar held names v a b u → IsLoaded {E = E} held name u b c w (Ok done) → OpenedSoFar held (names ++ name ∷ []) v a c w
opened_next E held names name v u w a b c done so l =
    let t : Turn = record { took = []; reply = l.0; next = a_command; after = w } in
    record {
      turns = so.turns ++ t ∷ [];
      opening = opening_more held names v so.turns u name t so.opening refl refl (inr l.1);
      gains = Gains-same a c _ _ (sym (flat_more (λ x. x.reply) so.turns t)) (Gains-trans a b c _ _ so.gains l.2);
    }

-- the names up to one more
pub names_next : {A : Type 0} (f : A → List ℕ) (xs : List A) (i : ℕ) (x : A) → i < length xs → x ≡ get_or xs i x → take (i + 1) (map f xs) ≡ take i (map f xs) ++ f x ∷ []
names_next f [] i x h e = absurd (omega arith)
names_next f (y ∷ ys) zero x h e = ap (λ z. f z ∷ []) (sym e)
names_next f (y ∷ ys) (suc i) x h e =
    let k : suc i + 1 ≡ suc (i + 1) = omega arith in
    let less : i < length ys = omega arith in
    ap (λ (n : ℕ). take n (f y ∷ map f ys)) k ∙ ap (λ (l : List (List ℕ)). f y ∷ l) (names_next f ys i x less e)

-- a name stands among them
pub name_among : {A : Type 0} (f : A → List ℕ) (xs : List A) (i : ℕ) (x : A) → i < length xs → x ≡ get_or xs i x → map f xs ≡ take i (map f xs) ++ f x ∷ drop (i + 1) (map f xs)
name_among f xs i x h e =
    sym (take-append-drop (i + 1) (map f xs)) ∙ ap (λ (l : List (List ℕ)). l ++ drop (i + 1) (map f xs)) (names_next f xs i x h e) ∙ append_assoc (take i (map f xs)) (f x ∷ []) (drop (i + 1) (map f xs))

-- all of them
pub names_all : {A : Type 0} (f : A → List ℕ) (xs : List A) (i : ℕ) → length xs ≤ i → take i (map f xs) ≡ map f xs
names_all f xs i h = take_all i (map f xs) (omega (arith, length-map xs f, h))

-- the same files, from the same state
pub opened_from : {held : Option Held} {names files : List (List ℕ)} {u v w : State} {a b : Option (List ℕ)} → names ≡ files → u ≡ v → OpenedSoFar held names u a b w → OpenedSoFar held files v a b w
opened_from {held = held} {names = names} {v = v} {w = w} {a = a} {b = b} e f o = subst (λ (fs : List (List ℕ)). OpenedSoFar held fs v a b w) e (subst (λ (x : State). OpenedSoFar held names x a b w) f o)

pub cut_from : {held : Option Held} {names files : List (List ℕ)} {u v w : State} {a b : Option (List ℕ)} → names ≡ files → u ≡ v → IsCutAt held names u a b w → IsCutAt held files v a b w
cut_from {held = held} {names = names} {v = v} {w = w} {a = a} {b = b} e f o = subst (λ (fs : List (List ℕ)). IsCutAt held fs v a b w) e (subst (λ (x : State). IsCutAt held names x a b w) f o)

-- the reply to a file was written in part
pub opened_short : {E : Type 0} (held : Option Held) (all front rest : List (List ℕ)) (name : List ℕ) (v u w : State) (a b c : Option (List ℕ)) (e : E) → all ≡ front ++ name ∷ rest → OpenedSoFar held front v a b u → IsLoaded {E = E} held name u b c w (Err e) → IsCutAt held all v a c w
opened_short held all front rest name v u w a b c e among so l = record {
  front = front;
  name = name;
  rest = rest;
  turns = so.turns;
  begun = u;
  reply = l.0;
  last = l.2.0;
  among = among;
  opening = so.opening;
  loads = inr l.1;
  cut = (l.2.1, l.2.2, l.2.4);
  gains = Gains-trans a b c _ _ so.gains l.2.3;
}

-- the banner, the files of the words and the commands
pub ran : {left left' a b c d : Option (List ℕ)} (held : Option Held) (words files : List (List ℕ)) (steps : Option ℕ) (v u w : State) (status : Status) → AreWords words steps files → IsSound v.view → Gains a b banner → OpenedSoFar held files (with_words steps v) b c u
    → Commanded held left left' c d u status w → Serves held words left left' a d v status w
ran {left = left} {left' = left'} {a = a} {b = b} {c = c} {d = d} held words files steps v u w status good sound g so m =
    let opened = opening_sound held files (with_words steps v) so.turns u so.opening (words_sound steps v sound) in
    let steps_sound = run_sound held a_command u m.turns m.phase m.mid m.run opened.1 in
    let took = flat_map (λ x. x.took) m.turns ++ m.tail in
    let gained = ((banner ++ flat_map (λ x. x.reply) so.turns) ++ flat_map (λ x. x.reply) m.turns) ++ m.last in
    let r : Ran held files left' status (with_words steps v) (took ++ m.ahead) gained w = record {
      opened = so.turns;
      begun = u;
      turns = m.turns;
      phase = m.phase;
      mid = m.mid;
      tail = m.tail;
      last = m.last;
      ahead = m.ahead;
      opening = so.opening;
      run = m.run;
      ends = m.ends;
      read = refl;
      wrote = refl;
      within = m.within;
      sound_opened = opened.0;
      sound = steps_sound.0;
    } in
    record {
      taken = took ++ m.ahead;
      gained = gained;
      consumed = m.consumed;
      gains = Gains-same a d _ _ (sym (append_assoc (banner ++ flat_map (λ x. x.reply) so.turns) (flat_map (λ x. x.reply) m.turns) m.last)) (Gains-trans a c d _ _ (Gains-trans a b c _ _ g so.gains) m.gains);
      outcome = outcome_of held words left' status m.phase v m.mid w _ _ m.tail m.last m.ahead (length took) m.ends (steps, files, good, r);
      sound_before = sound;
      sound_after = ends_sound held left' status m.phase m.mid w m.tail m.last m.ahead (length took) m.ends steps_sound.1;
    }

-- a part that is not all
cut_of : (a b : Option (List ℕ)) (all : List ℕ) (f : GainsFront a b all) → IsCut f.0 all
cut_of a b all f = (f.1, f.2, f.4)

-- a write failed while the files of the words were loaded
pub files_cut : {left a b c : Option (List ℕ)} (held : Option Held) (words files : List (List ℕ)) (steps : Option ℕ) (v w : State) → AreWords words steps files → IsSound v.view → Gains a b banner → IsCutAt held files (with_words steps v) b c w
    → Serves held words left left a c v WriteFault w
files_cut {left = left} {a = a} {b = b} {c = c} held words files steps v w good sound g m =
    let opened = opening_sound held m.front (with_words steps v) m.turns m.begun m.opening (words_sound steps v sound) in
    let gained = (banner ++ flat_map (λ x. x.reply) m.turns) ++ m.last in
    let o : IsCutOpening held files (with_words steps v) [] gained w = record {
      front = m.front;
      name = m.name;
      rest = m.rest;
      opened = m.turns;
      begun = m.begun;
      reply = m.reply;
      last = m.last;
      among = m.among;
      opening = m.opening;
      loads = m.loads;
      cut = m.cut;
      wrote = refl;
      nothing_read = refl;
    } in
    record {
      taken = [];
      gained = gained;
      consumed = Consumes-nil left;
      gains = Gains-same a c _ _ (sym (append_assoc banner (flat_map (λ x. x.reply) m.turns) m.last)) (Gains-trans a b c _ _ g m.gains);
      outcome = inr (inr (inl (steps, files, good, o)));
      sound_before = sound;
      sound_after = loads_sound held m.name m.begun w m.reply m.loads opened.1;
    }

-- the banner was cut short
pub banner_cut : (held : Option Held) (words : List (List ℕ)) (left written written' : Option (List ℕ)) (v : State) → AreGoodWords words → IsSound v.view → GainsFront written written' banner → Serves held words left left written written' v WriteFault v
banner_cut held words left written written' v good sound f = record {
  taken = [];
  gained = f.0;
  consumed = Consumes-nil left;
  gains = f.3;
  outcome = inr (inl (good, cut_of written written' banner f, record { nothing_read = refl; same = refl }));
  sound_before = sound;
  sound_after = sound;
}

-- the words are bad
pub usage_cut : (held : Option Held) (words : List (List ℕ)) (left written written' : Option (List ℕ)) (v : State) → AreBad words → IsSound v.view → GainsFront written written' usage → Serves held words left left written written' v WriteFault v
usage_cut held words left written written' v bad sound f = record {
  taken = [];
  gained = f.0;
  consumed = Consumes-nil left;
  gains = f.3;
  outcome = inl (bad, cut_of written written' usage f, record { nothing_read = refl; same = refl });
  sound_before = sound;
  sound_after = sound;
}

pub usage_told : (held : Option Held) (words : List (List ℕ)) (left written written' : Option (List ℕ)) (v : State) → AreBad words → IsSound v.view → Gains written written' usage → Serves held words left left written written' v BadWords v
usage_told held words left written written' v bad sound f = record {
  taken = [];
  gained = usage;
  consumed = Consumes-nil left;
  gains = f;
  outcome = (bad, refl, record { nothing_read = refl; same = refl });
  sound_before = sound;
  sound_after = sound;
}

-- memory was wanting before the banner
pub no_memory : (held : Option Held) (words : List (List ℕ)) (left written : Option (List ℕ)) (v : State) → IsSound v.view → Serves held words left left written written v NoMemory v
no_memory held words left written v sound = record {
  taken = [];
  gained = [];
  consumed = Consumes-nil left;
  gains = Gains-nil written;
  outcome = (refl, record { nothing_read = refl; same = refl });
  sound_before = sound;
  sound_after = sound;
}

-- the words are bad
pub bad_words : (words : List (List ℕ)) (fault : WordsFault) → fault ≡ Bad → Answers words (Err fault) → AreBad words
bad_words words fault e h = subst (λ (f : WordsFault). Answers words (Err f)) e h

-- the file of the same name was loaded
pub loaded_as : (E : Type 0) (held : Option Held) (word name : List ℕ) (v w : State) (a b : Option (List ℕ)) (r : Result (Unit {0}) E) → word ≡ name → IsLoaded held word v a b w r → IsLoaded held name v a b w r
loaded_as E held word name v w a b r e l = subst (λ (n : List ℕ). IsLoaded held n v a b w r) e l

-- the files up to one more were loaded
pub opened_on : {held : Option Held} {names files : List (List ℕ)} {v w : State} {a b : Option (List ℕ)} → names ≡ files → OpenedSoFar held files v a b w → OpenedSoFar held names v a b w
opened_on {held = held} {v = v} {w = w} {a = a} {b = b} e o = subst (λ (fs : List (List ℕ)). OpenedSoFar held fs v a b w) (sym e) o

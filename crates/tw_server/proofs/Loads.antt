-- How the lines of a file, and the reply to it, are put together of what is written for it.
use Rattle.std.proofs.Common.{◌≡◌, ℕ, ◌≤◌, List, [], ◌++◌, length, refl, sym, ap, ◌∙◌, Bool, true, false, arith, subst, append-nil, append_assoc, None, Some, Ok, Err, inl, inr}
use Rattle.std.specs.declared.option.Option.{Option}
use Rattle.std.specs.declared.result.Result.{Result}
use Rattle.tw_decl.specs.Declaration.{AcceptsFrom, Comes, HasCauseFrom, HasNoMore}
use Rattle.tw_decl.specs.declared.declaration.Next.{Next}
use Rattle.tw_decl.specs.declared.declaration.Next.TheVariants as nexts
use Rattle.tw_decl.specs.declared.report.Report.{Report}
use Rattle.tw_decl.specs.Refusals.{refusal_line}
use Rattle.tw_decl.specs.Reports.{Reported, reported}
use Rattle.tw_decl.specs.View.{View}
use Rattle.tw_decl.specs.declared.refusal.Refusal.{Refusal}
use Rattle.tw_decl.specs.declared.refusal.Refusal.TheVariants.{Memory}
use Rattle.tw_lexer.specs.Places.{place_of}
use Rattle.tw_lexer.specs.declared.place.Place.{Place}
use Rattle.tw_ports.specs.Files.{Held, HoldsOn, Tells, Within, FileCounts}
use Rattle.tw_ports.specs.Ports.{Gains}
use Rattle.tw_ports.proofs.Gained.{Gains-same, Gains-trans}
use Rattle.tw_ports.specs.declared.files.FileAnswer.{FileAnswer}
use Rattle.tw_server.specs.Loading.{AnswersFile, Declares, no_more, one_more}
use Rattle.tw_server.specs.Limits.{text_limit}
use Rattle.tw_server.specs.Loaded.{HasLines, IsLoaded, IsOpened, IsRefusedWith, LoadedSoFar}
use Rattle.tw_server.specs.Replies.{last_line, no_memory, opening, closing}
use Rattle.tw_server.specs.State.{State}
use Rattle.tw_server.specs.Written.{GainsFront, GainsLines, GainsReply}
use Rattle.tw_server.proofs.Pieces.{front_first, lines_second, reply_second}

-- memory was wanting before the opening line
pub not_opened : {E : Type 0} (v : View) (name text : List ℕ) (a b : Option (List ℕ)) (r : Result Bool E) → GainsLines a b no_memory false r → IsOpened v name text a b v r
not_opened v name text a b r g = (no_memory, false, inl (record { says = refl; ill = refl; same = refl }), g)

-- Of the opening line and the lines behind it a part was written. Memory might have been wanting behind these declarations.
pub opened_cut : {E : Type 0} (v w : View) (name text lines : List ℕ) (upto : ℕ) (a b : Option (List ℕ)) (e : E) → Declares text v 0 lines w upto → GainsFront a b (opening name ++ lines) → IsOpened {E = E} v name text a b w (Err e)
opened_cut v w name text lines upto a b e d g = (
  (opening name ++ lines) ++ (no_memory ++ closing name),
  false,
  inr (record { reports = lines; upto = upto; shown = no_memory; makes = d; ends = (Memory, tt, refl); says = refl }),
  front_first a b (opening name ++ lines) (no_memory ++ closing name) g,
)

-- the opening line was written in part
pub opening_cut : {E : Type 0} (v : View) (name text line : List ℕ) (a b : Option (List ℕ)) (e : E) → line ≡ opening name → GainsReply {E = E} a b line (Err e) → IsOpened {E = E} v name text a b v (Err e)
opening_cut v name text line a b e same g =
    opened_cut v v name text [] 0 a b e no_more (subst (GainsFront a b) (same ∙ sym (append-nil (opening name))) g)

-- the opening line was written
pub opened_first : (v : View) (name text line : List ℕ) (a b : Option (List ℕ)) (at : Place) → line ≡ opening name → Gains a b line → at ≡ place_of text 0 → LoadedSoFar v name text a b v 0 at
opened_first v name text line a b at same g p = record {
  lines = [];
  makes = no_more;
  gains = Gains-same a b _ _ (same ∙ sym (append-nil (opening name))) g;
  within = omega arith;
  place = p;
}

-- one declaration more was made, and its report written
pub opened_more : (v u w : View) (name text : List ℕ) (report : Reported) (a b c : Option (List ℕ)) (from upto : ℕ) (at behind : Place) → LoadedSoFar v name text a b u from at → AcceptsFrom u text from report upto w → Gains b c report.text → upto ≤ length text → behind ≡ place_of text upto
    → LoadedSoFar v name text a c w upto behind
opened_more v u w name text report a b c from upto at behind so accepts g few p = record {
  lines = so.lines ++ report.text;
  makes = one_more so.makes accepts;
  gains = Gains-same a c _ _ (append_assoc (opening name) so.lines report.text) (Gains-trans a b c (opening name ++ so.lines) report.text so.gains g);
  within = few;
  place = p;
}

-- one declaration more was made, and its report written in part
pub opened_part : {E : Type 0} (v u w : View) (name text bytes : List ℕ) (report : Reported) (a b c : Option (List ℕ)) (from upto : ℕ) (at : Place) (e : E) → LoadedSoFar v name text a b u from at → AcceptsFrom u text from report upto w → bytes ≡ report.text → GainsReply {E = E} b c bytes (Err e)
    → IsOpened {E = E} v name text a c w (Err e)
opened_part {E = E} v u w name text bytes report a b c from upto at e so accepts same g =
    let cut : GainsFront a c ((opening name ++ so.lines) ++ report.text) = reply_second {E = E} a b c (opening name ++ so.lines) report.text (Err e) so.gains (subst (λ (l : List ℕ). GainsReply {E = E} b c l (Err e)) same g) in
    opened_cut v w name text (so.lines ++ report.text) upto a c e (one_more so.makes accepts) (subst (GainsFront a c) (append_assoc (opening name) so.lines report.text) cut)

-- the file came to its end
pub opened_end : {E : Type 0} (v u w : View) (name text line : List ℕ) (a b c : Option (List ℕ)) (from : ℕ) (at : Place) (r : Result Bool E) → LoadedSoFar v name text a b u from at → HasNoMore text from → w ≡ u → line ≡ closing name → GainsLines b c ([] ++ line) true r
    → IsOpened v name text a c w r
opened_end {E = E} v u w name text line a b c from at r so none same e g = (
  (opening name ++ so.lines) ++ ([] ++ closing name),
  true,
  inr (record { reports = so.lines; upto = from; shown = []; makes = subst (λ (x : View). Declares text v 0 so.lines x from) (sym same) so.makes; ends = (none, refl); says = refl }),
  lines_second a b c (opening name ++ so.lines) ([] ++ closing name) true r so.gains (subst (λ (l : List ℕ). GainsLines b c ([] ++ l) true r) e g),
)

-- the lines of a file, behind which a refusal is shown
refused_behind : {E : Type 0} (v u : View) (name text shown : List ℕ) (refusal : Refusal) (a b c : Option (List ℕ)) (from : ℕ) (at : Place) (r : Result Bool E) → LoadedSoFar v name text a b u from at → HasCauseFrom u text from refusal → shown ≡ refusal_line name refusal
    → GainsLines b c (shown ++ closing name) false r → IsOpened v name text a c u r
refused_behind v u name text shown refusal a b c from at r so cause e g = (
  (opening name ++ so.lines) ++ (shown ++ closing name),
  false,
  inr (record { reports = so.lines; upto = from; shown = shown; makes = so.makes; ends = (refusal, cause, e); says = refl }),
  lines_second a b c (opening name ++ so.lines) (shown ++ closing name) false r so.gains g,
)

-- a declaration was refused
pub opened_refused : {E : Type 0} (v u w : View) (name text line : List ℕ) (refusal : Refusal) (a b c : Option (List ℕ)) (from : ℕ) (at : Place) (r : Result Bool E) → LoadedSoFar v name text a b u from at → HasCauseFrom u text from refusal → w ≡ u → line ≡ closing name
    → IsRefusedWith refusal name line b c r → IsOpened v name text a c w r
opened_refused v u w name text line refusal a b c from at r so cause same e g =
    subst (λ (x : View). IsOpened v name text a c x r) (sym same) (elim g.1 [
      | inl shown ↦ refused_behind v u name text g.0 refusal a b c from at r so cause shown written
      | inr lost ↦ refused_behind v u name text g.0 Memory a b c from at r so tt lost written
    ])
  where
    written : GainsLines b c (g.0 ++ closing name) false r
    written = subst (λ (l : List ℕ). GainsLines b c (g.0 ++ l) false r) e g.2

-- what is told of files that hold on
pub tells_before : (held h : Option Held) (name : List ℕ) (limit : ℕ) (answer : FileAnswer) → HoldsOn held h → Tells h name limit answer → Tells held name limit answer
tells_before None h name limit answer e t = tt
tells_before (Some files) h name limit answer e t = subst (λ (x : Option Held). Tells x name limit answer) e t

-- a file was asked for, and lines written by the answer
pub loaded : {E : Type 0} (held h : Option Held) (name : List ℕ) (v w : State) (a b : Option (List ℕ)) (lines : List ℕ) (well : Bool) (answer : FileAnswer) (r : Result Bool E) → HoldsOn held h → Tells h name text_limit answer → Within text_limit answer → FileCounts v.faults w.faults answer
    → AnswersFile v.view name answer lines well w.view → GainsLines a b lines well r → HasLines held name v a b w r
loaded held h name v w a b lines well answer r e t m n f g =
    (lines, well, record { answer = answer; tells = tells_before held h name text_limit answer e t; within = m; counts = n; says = f }, g)

-- there is one line, with the file's name
pub loaded_line : {E : Type 0} (held h : Option Held) (name word : List ℕ) (v w : State) (a b : Option (List ℕ)) (line : List ℕ → List ℕ) (answer : FileAnswer) (r : Result Bool E) → HoldsOn held h → Tells h name text_limit answer → Within text_limit answer → FileCounts v.faults w.faults answer
    → AnswersFile v.view name answer (line name) false w.view → word ≡ name → GainsLines a b (line word) false r → HasLines held name v a b w r
loaded_line held h name word v w a b line answer r e t m n f same g =
    loaded held h name v w a b (line name) false answer r e t m n f (subst (λ (x : List ℕ). GainsLines a b (line x) false r) same g)

-- the lines were written, and then the last one
pub loaded_alone : {E : Type 0} (held : Option Held) (name last : List ℕ) (v w : State) (a b c : Option (List ℕ)) (told : Bool) (r : Result (Unit {0}) E) → HasLines {E = E} held name v a b w (Ok told) → last ≡ last_line told → GainsReply b c last r → IsLoaded held name v a c w r
loaded_alone held name last v w a b c told r (lines, well, loads, g) e h = (
  lines ++ last,
  record { lines = lines; well = well; loads = loads; says = ap (λ (l : List ℕ). lines ++ l) (e ∙ ap last_line g.0) },
  reply_second a b c lines last r g.1 h,
)

-- the lines were written in part
pub lines_short : {E : Type 0} (held : Option Held) (name : List ℕ) (v w : State) (a b : Option (List ℕ)) (e : E) → HasLines {E = E} held name v a b w (Err e) → IsLoaded {E = E} held name v a b w (Err e)
lines_short held name v w a b e (lines, well, loads, g) =
    (lines ++ last_line well, record { lines = lines; well = well; loads = loads; says = refl }, front_first a b lines (last_line well) g)

-- what comes next in a file: no declaration, or one with its report
pub comes_end : (u w : View) (text : List ℕ) (from : ℕ) (next : Next) → next ≡ nexts.End → Comes u text from next w → HasNoMore text from × (w ≡ u)
comes_end u w text from next e h = subst (λ (n : Next). Comes u text from n w) e h

pub comes_done : (u w : View) (text : List ℕ) (from upto : ℕ) (next : Next) (report : Report) (at : Place) → next ≡ nexts.Done report upto at → Comes u text from next w → AcceptsFrom u text from (reported report) upto w × (at ≡ place_of text upto)
comes_done u w text from upto next report at e h = subst (λ (n : Next). Comes u text from n w) e h

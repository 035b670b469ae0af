-- Laws of sessions in order.
use Rattle.std.specs.Prelude.{◌≡◌, ℕ, List, [], ◌∷◌, ◌++◌, length, codes, Bool, false, Option, Some, None}
use Rattle.std.specs.List.{AllByRecursion}
use Rattle.lf.specs.Entries.{Entry, signature_of, IsCanonicalEntry, IsCanonicalSignature}
use Rattle.tw_names.specs.Texts.{hints}
use Rattle.tw_lexer.specs.Tokens.{ThroughDot}
use Rattle.tw_lexer.specs.declared.place.Place.{Place}
use Rattle.tw_lexer.specs.declared.token.Token.{Token}
use Rattle.tw_parse.specs.Outlines.{Table}
use Rattle.tw_parse.specs.Readings.{Declares}
use Rattle.tw_parse.specs.Syntax.{Term, Declaration, declare, define, prefer}
use Rattle.tw_parse.specs.Words.{Lexeme, lexemes}
use Rattle.tw_parse.specs.declared.decl.ExtName.{ExtName}
use Rattle.tw_print.specs.Names.{Scene}
use Rattle.tw_print.specs.Shown.{declaration_line, scene_after}
use Rattle.tw_approx.specs.Names.{IsFreeVariable}
use Rattle.tw_recon.specs.Hints.{written_hints}
use Rattle.law_reading_back.specs.Names.{IsName, AreGoodHints, PreferNames, HasRoom, HasNoImplicit}
use Rattle.tw_decl.specs.View.{View, empty_view, reset_view, with_chatter, with_implicit, with_steps, with_entry, scene_of, told}
use Rattle.tw_decl.specs.Declaration.{Makes, Accepts, AcceptsFrom}
use Rattle.tw_decl.specs.Reading.{plain}
use Rattle.tw_decl.specs.Reports.{Reported, lines_alone}
use Rattle.tw_ports.specs.Files.{Held}
use Rattle.tw_server.specs.Loading.{first_lines}
use Rattle.tw_server.specs.Machine.{Step}
use Rattle.tw_server.specs.Outcome.{RanTo}
use Rattle.tw_server.specs.Phases.{Phase}
use Rattle.tw_server.specs.State.{State, state_at}
use Rattle.tw_server.specs.declared.status.Status.{Status}
use Rattle.law_session_order.specs.Words.{AreSpelled}
use Rattle.law_session_order.specs.Order.{HasOpenLine, HasPlainLine, HasPlainLines, HasNoRows, IsViewInOrder, LineReadsBack, CheckReadsBack, ReadsItselfBack, IsWithinLimits, IsFileWithinLimits, AcceptsAgain, IsDeclaredAgain}

-- what a text has as names are names
abbrev pub TokensAreSpelled : Type 0
TokensAreSpelled = (text : List ℕ) (from upto : ℕ) (tokens : List Token) → ThroughDot text from tokens upto → AreSpelled (lexemes text tokens)

-- so what is declared has a name, and has names as its hints
abbrev pub DeclaredIsNamed : Type 0
DeclaredIsNamed = (table : Table) (words : List Lexeme) (name : List ℕ) (at : Place) (U : Term) → AreSpelled words → Declares table words (declare name at U) → IsName name × AreGoodHints (hints U)

-- so is what is defined, if it has a name, and it has names as its hints
abbrev pub DefinedIsNamed : Type 0
DefinedIsNamed = (table : Table) (words : List Lexeme) (name : Option (List ℕ)) (A : Option Term) (M : Term) (b : Bool) → AreSpelled words → Declares table words (define name A M b)
    → ((c : List ℕ) → name ≡ Some c → IsName c) × AreGoodHints (written_hints (define name A M b))

-- and the free variables of either are names
abbrev pub FreeAreNamed : Type 0
FreeAreNamed = (table : Table) (words : List Lexeme) (d : Declaration) (es : List Entry) (x : List ℕ) → AreSpelled words → Declares table words d → IsFreeVariable es x d → IsName x

-- and what is preferred for variables are names
abbrev pub PreferredAreNames : Type 0
PreferredAreNames = (table : Table) (words : List Lexeme) (a : ExtName) (x : List ℕ) (y : Option (List ℕ)) → AreSpelled words → Declares table words (prefer a x y) → PreferNames (x, y)

-- a new session is in order, and so is one that was reset
abbrev pub NewIsInOrder : Type 0
NewIsInOrder = IsViewInOrder empty_view × ((v : View) → IsViewInOrder (reset_view v))

-- what the user sets keeps it so
abbrev pub SettingKeepsOrder : Type 0
SettingKeepsOrder = (v : View) (n : ℕ) (b : Bool) → IsViewInOrder v → IsViewInOrder (with_chatter v n) × IsViewInOrder (with_implicit v b) × IsViewInOrder (with_steps v n)

-- and so does a declaration that is made
abbrev pub MakingKeepsOrder : Type 0
MakingKeepsOrder = (v w : View) (words : List Lexeme) (report : Reported) → AreSpelled words → Makes v words report w → IsViewInOrder v → IsViewInOrder w

-- so a text that is accepted, alone or among others, keeps the session in order
abbrev pub AcceptingKeepsOrder : Type 0
AcceptingKeepsOrder = (v w : View) (text : List ℕ) (report : Reported) → Accepts v text report w → IsViewInOrder v → IsViewInOrder w

abbrev pub AcceptingFromKeepsOrder : Type 0
AcceptingFromKeepsOrder = (v w : View) (text : List ℕ) (report : Reported) (from upto : ℕ) → AcceptsFrom v text from report upto w → IsViewInOrder v → IsViewInOrder w

-- and so does a step of the program, whatever its command is
abbrev pub StepKeepsOrder : Type 0
StepKeepsOrder = (held : Option Held) (whole : Bool) (phase next : Phase) (v w : State) (took reply : List ℕ) → Step held whole phase v took reply next w → IsViewInOrder v.view → IsViewInOrder w.view

-- so in a run that begins with a new session each session is in order: after each file of the words, and after each command
abbrev pub RunIsInOrder : Type 0
RunIsInOrder = (held : Option Held) (words : List (List ℕ)) (left : Option (List ℕ)) (status : Status) (n : ℕ) (taken gained : List ℕ) (w : State) (ran : RanTo held words left status (state_at empty_view n) taken gained w)
    → AllByRecursion (λ t. IsViewInOrder t.after.view) ran.3.opened × AllByRecursion (λ t. IsViewInOrder t.after.view) ran.3.turns

-- a session in order in which nothing is implicit reads back what it prints
abbrev pub KeptReadsBack : Type 0
KeptReadsBack = (v : View) → IsViewInOrder v → ReadsItselfBack v

-- The line of an entry in which each constant is the newest of its name and has no implicit arguments reads back whatever else a session in order holds.
abbrev pub OpenReadsBack : Type 0
OpenReadsBack = (v : View) (newer older : List Entry) (e : Entry) → IsViewInOrder v → v.parameters.implicit ≡ false → HasRoom (scene_of v) → v.signature ≡ newer ++ e ∷ older
    → HasOpenLine (scene_of v) e → LineReadsBack (scene_of v) older v.fixities e

-- THE theorem of runs: in a run that begins with a new session, each session in which nothing is implicit reads back what it prints
abbrev pub RunReadsBack : Type 0
RunReadsBack = (held : Option Held) (words : List (List ℕ)) (left : Option (List ℕ)) (status : Status) (n : ℕ) (taken gained : List ℕ) (w : State) (ran : RanTo held words left status (state_at empty_view n) taken gained w)
    → AllByRecursion (λ t. ReadsItselfBack t.after.view) ran.3.opened × AllByRecursion (λ t. ReadsItselfBack t.after.view) ran.3.turns

-- the line of an entry that is about to be kept is read back by the session as it still is
abbrev pub NewReadsBack : Type 0
NewReadsBack = (v : View) (e : Entry) → IsViewInOrder (with_entry v e) → v.parameters.implicit ≡ false → HasRoom (scene_of (with_entry v e)) → HasNoImplicit (scene_of (with_entry v e))
    → HasPlainLine (scene_after (scene_of v) e) e → LineReadsBack (scene_after (scene_of v) e) v.signature v.fixities e

-- A report of this entry: its line, which is read back by the session before, if it is open, or nothing is implicit and no percent sign is in it but that of its keyword.
pub record Reports (v w : View) (report : Reported) (e : Entry) : Type 0 where
  pub shows : report ≡ lines_alone (told v (declaration_line (scene_of w) e ++ codes "\n"))
  pub open_reads_back : HasOpenLine (scene_of w) e → LineReadsBack (scene_of w) v.signature v.fixities e
  pub reads_back : HasNoImplicit (scene_of w) → HasPlainLine (scene_of w) e → LineReadsBack (scene_of w) v.signature v.fixities e

-- what an accepted declaration of an entry reports reads back
abbrev pub ReportReadsBack : Type 0
ReportReadsBack = (v w : View) (text : List ℕ) (report : Reported) (e : Entry) → Accepts v text report w → w.signature ≡ e ∷ v.signature → IsViewInOrder v → v.parameters.implicit ≡ false → HasRoom (scene_of w) → Reports v w report e

-- the same of a declaration in a text of several
abbrev pub ReportFromReadsBack : Type 0
ReportFromReadsBack = (v w : View) (text : List ℕ) (report : Reported) (from upto : ℕ) (e : Entry) → AcceptsFrom v text from report upto w → w.signature ≡ e ∷ v.signature → IsViewInOrder v → v.parameters.implicit ≡ false → HasRoom (scene_of w)
    → Reports v w report e

-- a line that reads back over a session whose signature is canonical, within the limits, is accepted by that session
abbrev pub ReadBackIsAccepted : Type 0
ReadBackIsAccepted = (s : Scene) (v : View) (e : Entry) → IsCanonicalSignature v.signature → LineReadsBack s v.signature v.fixities e → IsCanonicalEntry (signature_of v.signature) e → IsWithinLimits (declaration_line s e) → AcceptsAgain v (declaration_line s e) e

-- so the line of an entry of a session is accepted by one that has the entries before it and the same operators, and declares the entry again
abbrev pub KeptIsAccepted : Type 0
KeptIsAccepted = (v u : View) (newer older : List Entry) (e : Entry) → IsViewInOrder v → v.parameters.implicit ≡ false → HasRoom (scene_of v) → HasNoImplicit (scene_of v) → v.signature ≡ newer ++ e ∷ older
    → HasPlainLine (scene_of v) e → u.signature ≡ older → u.fixities ≡ v.fixities → IsWithinLimits (declaration_line (scene_of v) e) → AcceptsAgain u (declaration_line (scene_of v) e) e

-- the same of an open line, whatever else the sessions hold
abbrev pub OpenIsAccepted : Type 0
OpenIsAccepted = (v u : View) (newer older : List Entry) (e : Entry) → IsViewInOrder v → v.parameters.implicit ≡ false → HasRoom (scene_of v) → v.signature ≡ newer ++ e ∷ older
    → HasOpenLine (scene_of v) e → u.signature ≡ older → u.fixities ≡ v.fixities → IsWithinLimits (declaration_line (scene_of v) e) → AcceptsAgain u (declaration_line (scene_of v) e) e

-- and the line of an entry that was just declared by the session before
abbrev pub NewIsAccepted : Type 0
NewIsAccepted = (v : View) (e : Entry) → IsViewInOrder (with_entry v e) → v.parameters.implicit ≡ false → HasRoom (scene_of (with_entry v e)) → HasNoImplicit (scene_of (with_entry v e))
    → HasPlainLine (scene_of (with_entry v e)) e → IsWithinLimits (declaration_line (scene_of (with_entry v e)) e) → AcceptsAgain v (declaration_line (scene_of (with_entry v e)) e) e

-- The lines that `Print.sgn` prints of a session in which nothing is implicit, no name has the row of an operator and no line a percent sign but that of its keyword declare the same
-- entries in the same order, where they are loaded as a file within the limits over a session in order that has no entries and rows. A row isn't among the lines, and each new entry
-- takes its name's row away, so with rows each line is only read alone, as `EachReadsBack` says.
abbrev pub SignatureReadsBack : Type 0
SignatureReadsBack = (v u : View) → IsViewInOrder v → v.parameters.implicit ≡ false → HasRoom (scene_of v) → HasNoImplicit (scene_of v) → HasNoRows v → HasPlainLines v → IsViewInOrder u → u.signature ≡ [] → HasNoRows u
    → IsFileWithinLimits (first_lines v (length v.signature)) → IsDeclaredAgain u (first_lines v (length v.signature)) v.signature

-- A report of a definition without a name: its line, which is read back by the session, if it is open, or nothing is implicit and no percent sign is in it.
pub record ReportsCheck (v : View) (report : Reported) : Type 0 where
  pub entry : Entry
  pub unnamed : entry.name ≡ codes "_"
  pub shows : report ≡ lines_alone (told v (declaration_line (scene_of v) entry ++ codes "\n"))
  pub open_reads_back : HasOpenLine (scene_of v) entry → CheckReadsBack (scene_of v) v.signature v.fixities entry
  pub reads_back : HasNoImplicit (scene_of v) → HasPlainLine (scene_of v) entry → CheckReadsBack (scene_of v) v.signature v.fixities entry

-- what an accepted definition without a name reports reads back
abbrev pub CheckReportReadsBack : Type 0
CheckReportReadsBack = (v w : View) (text : List ℕ) (report : Reported) (a : Accepts v text report w) (A : Option Term) (M : Term) (b : Bool) → a.makes.read ≡ plain (define None A M b) → IsViewInOrder v → v.parameters.implicit ≡ false → HasRoom (scene_of v)
    → ReportsCheck v report

-- the same of a declaration in a text of several
abbrev pub CheckReportFromReadsBack : Type 0
CheckReportFromReadsBack = (v w : View) (text : List ℕ) (report : Reported) (from upto : ℕ) (a : AcceptsFrom v text from report upto w) (A : Option Term) (M : Term) (b : Bool) → a.makes.read ≡ plain (define None A M b) → IsViewInOrder v
    → v.parameters.implicit ≡ false → HasRoom (scene_of v) → ReportsCheck v report

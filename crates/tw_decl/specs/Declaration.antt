-- A declaration's text: when it is made, with its report and the view after it, and when it is refused.
use Rattle.std.specs.Prelude.{◌≡◌, ◌≢◌, ◌⊎◌, ℕ, List, [], ◌∷◌, ◌++◌, map as each, Bool, true, false, codes, Option, None, Some, Ok, Err, if◌then◌else◌}
use Rattle.std.specs.FinMap as map
use Rattle.lf.specs.Entries.{Entry, entry, signature_of, IsCanonicalEntry}
use Rattle.lf.specs.Subordination.{Block}
use Rattle.lf_checks.specs.Marks.{Mark}
use Rattle.tw_clause.specs.declared.order.Order.{Order as PlainOrder}
use Rattle.tw_terms.specs.declared.canonical.ConstId.{ConstId}
use Rattle.tw_fixity.specs.declared.table.Fix.{Fix}
use Rattle.tw_lexer.specs.Places.{place_of}
use Rattle.tw_lexer.specs.Tokens.{first_token, ThroughDot, IsFew, HasFault, HasTooMany}
use Rattle.tw_lexer.specs.declared.place.Place.{Place}
use Rattle.tw_lexer.specs.declared.token.Token.{Token}
use Rattle.tw_lexer.specs.declared.token.TokenKind.TheVariants.{End}
use Rattle.tw_parse.specs.Queries.{Query}
use Rattle.tw_parse.specs.Syntax.{Declaration, Term, declare, define, prefer, give}
use Rattle.tw_parse.specs.declared.decl.ExtName.{ExtName}
use Rattle.tw_parse.specs.Words.{Lexeme, lexemes, first_place}
use Rattle.tw_parse.specs.declared.fault.SyntaxFault.TheVariants as faults
use Rattle.tw_print.specs.Shown.{declaration_line, scene_after}
use Rattle.tw_parse_checks.specs.Checks.{Call, Check, Order, mode_short, mode_full, block, worlds, terminates}
use Rattle.tw_parse_queries.specs.Searches.{query, solve}
use Rattle.tw_parse_queries.specs.declared.search.ExtBound.{ExtBound}
use Rattle.tw_query.specs.Runs.{answers_in}
use Rattle.tw_query.specs.declared.run.Leaf.{Leaf}
use Rattle.tw_query.specs.declared.run.QueryEnd.{QueryEnd}
use Rattle.tw_recon.specs.Reconstruction.{IsReconstructed}
use Rattle.tw_decl.specs.View.{View, scene_of, told, with_block, with_entry, with_mode, with_worlds}
use Rattle.tw_signature.specs.Goal.{Goal}
use Rattle.tw_signature.specs.Names.{number_of}
use Rattle.tw_decl.specs.Applications.{IsApplied, application_of, applications}
use Rattle.tw_decl.specs.Blocks.{GivesBlock, block_line}
use Rattle.tw_decl.specs.Modes.{GivesMarks, IsModed, mode_line}
use Rattle.tw_decl.specs.Termination.{Descend, GivesOrders, termination_line}
use Rattle.tw_decl.specs.Obstacles.{ReadHasObstacle}
use Rattle.tw_decl.specs.Operators.{operand_count, all_take, first_undeclared, with_rows, fixity_line}
use Rattle.tw_decl.specs.Preferences.{is_family, preference_line}
use Rattle.tw_decl.specs.Reading.{Read, plain, check, searching, Reads, ReadFault}
use Rattle.tw_decl.specs.Refusals.{refusal_line}
use Rattle.tw_decl.specs.Reports.{Reported, lines_alone, reported, with_answers}
use Rattle.tw_decl.specs.Searching.{IsAsExpected, Runs, bound_of, query_lines}
use Rattle.tw_decl.specs.Solutions.{IsFound}
use Rattle.tw_decl.specs.Worlds.{AreWorlded, GivesWorlds, worlds_line}
use Rattle.tw_decl.specs.declared.declaration.Next.{Next}
use Rattle.tw_decl.specs.declared.declaration.Next.TheVariants as nexts
use Rattle.tw_decl.specs.declared.refusal.Refusal.{Refusal}
use Rattle.tw_decl.specs.declared.refusal.Refusal.TheVariants as refusals

-- The tokens of the declaration that begins at a byte of the text, no more than the limit, as the grammar reads them; the byte that they
-- reach, and its place.
pub record IsWritten (text : List ℕ) (from upto : ℕ) (words : List Lexeme) (end : Place) : Type 0 where
  pub tokens : List Token
  pub through : ThroughDot text from tokens upto
  pub few : IsFew tokens
  pub spelled : words ≡ lexemes text tokens
  pub behind : end ≡ place_of text upto

-- the line of an entry as it is shown once it is kept
unfoldable pub entry_line : View → Entry → List ℕ
entry_line v e = declaration_line (scene_after (scene_of v) e) e ++ codes "\n"

-- what is reported of an entry that is kept
abbrev pub entry_report : View → Entry → Reported
entry_report v e = lines_alone (told v (entry_line v e))

-- a definition without a name
abbrev pub is_unnamed : Declaration → Bool
is_unnamed (define None A M b) = true
is_unnamed _ = false

-- the view once this entry is made of the declaration: a definition without a name is checked, and not kept
abbrev pub keeping : View → Declaration → Entry → View
keeping v d e = if is_unnamed d then v else with_entry v e

-- a constant, family or definition: its reconstruction may stand over the signature and is kept, if it has a name, and the report shows it
pub record Enters (v : View) (d : Declaration) (report : Reported) (w : View) : Type 0 where
  pub entry : Entry
  pub reconstructs : IsReconstructed v.signature d entry
  pub stands : IsCanonicalEntry (signature_of v.signature) entry
  pub says : report ≡ entry_report v entry
  pub keeps : w ≡ keeping v d entry

-- operators: each name is declared, and takes as many arguments as the operator has operands; it gets the row
pub record GivesRows (v : View) (fix : Fix) (names : List ExtName) (report : Reported) (w : View) : Type 0 where
  pub declared : first_undeclared v names ≡ None
  pub all_fit : all_take v.signature (operand_count fix) names ≡ true
  pub says : report ≡ lines_alone (told v (fixity_line fix names))
  pub keeps : w ≡ record v { fixities = with_rows v.fixities fix names }

-- preferred names of a declared family: an earlier row of it goes
pub record Prefers (v : View) (a : ExtName) (x : List ℕ) (y : Option (List ℕ)) (report : Reported) (w : View) : Type 0 where
  pub family : ℕ
  pub named : number_of v.signature a.name ≡ Some family
  pub is_one : is_family (entry v.signature family) ≡ true
  pub says : report ≡ lines_alone (told v (preference_line a.name x y))
  pub keeps : w ≡ record v { names = map.insert v.names family (x, y) }

-- what a declaration does
abbrev pub Does : View → Declaration → Reported → View → Type 0
Does v (declare c at U) report w = Enters v (declare c at U) report w
Does v (define c A M b) report w = Enters v (define c A M b) report w
Does v (prefer a x y) report w = Prefers v a x y report w
Does v (give fix names) report w = GivesRows v fix names report w

-- modes: the check names this family, with just its arguments, and gives it these marks, by which its clauses are well-moded; it gets them
pub record SetsMode (v : View) (c : Check) (report : Reported) (w : View) : Type 0 where
  pub family : ℕ
  pub marks : List Mark
  pub applied : IsApplied v c (family ∷ [])
  pub gives : GivesMarks v.signature c family marks
  pub moded : IsModed v family marks
  pub says : report ≡ lines_alone (told v (mode_line (applications c) marks))
  pub keeps : w ≡ with_mode v family marks

-- `%terminates`: the declaration gives families orders over inputs, by which their calls descend in the blocks of their worlds; nothing changes
pub record TestsOrders (v : View) (O : Order) (ps : List Call) (report : Reported) (w : View) : Type 0 where
  pub rows : List (ConstId × PlainOrder)
  pub gives : GivesOrders v O ps rows
  pub descends : Descend v rows
  pub says : report ≡ lines_alone (told v (termination_line (each application_of ps)))
  pub keeps : w ≡ v

-- `%block`: what is written gives a block, which is added
pub record AddsBlock (v : View) (l : ExtName) (n : ℕ) (d : Declaration) (report : Reported) (w : View) : Type 0 where
  pub added : Block
  pub gives : GivesBlock v l n d added
  pub says : report ≡ lines_alone (told v (block_line l))
  pub keeps : w ≡ with_block v added

-- `%worlds`: the labels name blocks, in which the clauses of the families are well-worlded; each family gets these worlds
pub record SetsWorlds (v : View) (ls : List ExtName) (ps : List Call) (report : Reported) (w : View) : Type 0 where
  pub families : List ℕ
  pub blocks : List Block
  pub gives : GivesWorlds v ls ps families blocks
  pub worlded : AreWorlded v families blocks
  pub says : report ≡ lines_alone (told v (worlds_line ls (each application_of ps)))
  pub keeps : w ≡ with_worlds v families blocks

-- what a check does
abbrev pub Checks : View → Check → Reported → View → Type 0
Checks v (mode_short a ms) report w = SetsMode v (mode_short a ms) report w
Checks v (mode_full ms a n d) report w = SetsMode v (mode_full ms a n d) report w
Checks v (terminates O ps) report w = TestsOrders v O ps report w
Checks v (block l n d) report w = AddsBlock v l n d report w
Checks v (worlds ls ps) report w = SetsWorlds v ls ps report w

-- A query: its search ends within the budget, with answers as expected. Its lines are told, with the number of answers, and nothing changes.
pub record AnswersQuery (v : View) (e t : ExtBound) (q : Query) (report : Reported) (w : View) : Type 0 where
  pub goal : Goal
  pub leaves : List Leaf
  pub end : QueryEnd
  pub tries : ℕ
  pub runs : Runs v q (bound_of t) goal leaves end tries
  pub expected : IsAsExpected e leaves end
  pub says : report ≡ with_answers (told v (query_lines v e t goal leaves end tries)) (answers_in leaves)
  pub keeps : w ≡ v

-- `%solve`: the definition by the first answer is kept, and the report shows it
pub record KeepsAnswer (v : View) (c : List ℕ) (A : Term) (report : Reported) (w : View) : Type 0 where
  pub entry : Entry
  pub found : IsFound v c A entry
  pub says : report ≡ entry_report v entry
  pub keeps : w ≡ with_entry v entry

-- what is done of what is read
abbrev pub ReadDoes : View → Read → Reported → View → Type 0
ReadDoes v (plain d) report w = Does v d report w
ReadDoes v (check c) report w = Checks v c report w
ReadDoes v (searching (query e t q)) report w = AnswersQuery v e t q report w
ReadDoes v (searching (solve c at A)) report w = KeepsAnswer v c A report w

-- what is read is made
pub record Makes (v : View) (words : List Lexeme) (report : Reported) (w : View) : Type 0 where
  pub read : Read
  pub reads : Reads v words read
  pub does : ReadDoes v read report w

-- the causes that are told before what follows the declaration is looked at; want of memory has none
abbrev pub IsFirstCause : View → Place → List Lexeme → Refusal → Type 0
IsFirstCause v end words refusals.Memory = Unit {0}
IsFirstCause v end words (refusals.Unsupported place name) = ReadFault v end words (faults.Unsupported name place)
IsFirstCause v end words (refusals.Nesting place) = ReadFault v end words (faults.Nesting place)
IsFirstCause v end words (refusals.Syntax place) = ReadFault v end words (faults.Syntax place)
IsFirstCause v end words _ = ⊥

-- what the words are read as isn't made
pub record IsNotMade (v : View) (end : Place) (words : List Lexeme) (refusal : Refusal) : Type 0 where
  pub read : Read
  pub reads : Reads v words read
  pub obstacle : ReadHasObstacle v read (first_place end words) refusal

-- the causes behind them
abbrev pub IsLastCause : View → Place → List Lexeme → Refusal → Type 0
IsLastCause v end words refusals.Memory = Unit {0}
IsLastCause v end words (refusals.Fixity place) = ReadFault v end words (faults.Fixity place)
IsLastCause v end words (refusals.BadDecl place) = ReadFault v end words (faults.BadDecl place) ⊎ IsNotMade v end words (refusals.BadDecl place)
IsLastCause v end words refusal = IsNotMade v end words refusal

-- no cause through `Syntax` stands: the words are read, or have a fault that is told later, of their operators or of the arguments of a keyword
abbrev pub IsPastSyntax : View → Place → List Lexeme → Type 0
IsPastSyntax v end words = ((r : Read) × Reads v words r) ⊎ ((place : Place) × ReadFault v end words (faults.Fixity place)) ⊎ ((place : Place) × ReadFault v end words (faults.BadDecl place))

-- A declaration that has to be alone in its text: a token that follows it is refused where it stands, behind the first causes and before the last ones.
abbrev pub IsFollowed : View → Place → List Lexeme → Token → Refusal → Type 0
IsFollowed v end words next (refusals.Syntax place) = (next.kind ≢ End) × (place ≡ next.at) × IsPastSyntax v end words
IsFollowed v end words next _ = ⊥

-- the cause of a refusal of these words, whatever follows them, or where this token does
abbrev pub IsCause : View → Place → List Lexeme → Refusal → Type 0
IsCause v end words refusal = IsFirstCause v end words refusal ⊎ IsLastCause v end words refusal

abbrev pub IsCauseAlone : View → Place → List Lexeme → Token → Refusal → Type 0
IsCauseAlone v end words next refusal = IsFirstCause v end words refusal ⊎ IsFollowed v end words next refusal ⊎ ((next.kind ≡ End) × IsLastCause v end words refusal)

-- the declaration that begins at this byte of a text, and the first token behind its dot
pub record IsWrittenAlone (text : List ℕ) (words : List Lexeme) (end : Place) (next : Token) : Type 0 where
  pub upto : ℕ
  pub written : IsWritten text 0 upto words end
  pub follower : first_token text upto ≡ Ok next

-- The declaration that begins at this byte of a text is accepted: its report, the byte behind its dot, and the view after it.
pub record AcceptsFrom (v : View) (text : List ℕ) (from : ℕ) (report : Reported) (upto : ℕ) (w : View) : Type 0 where
  pub words : List Lexeme
  pub end : Place
  pub written : IsWritten text from upto words end
  pub makes : Makes v words report w

-- a text that is one declaration is accepted, with nothing but comments and white space behind the dot
pub record Accepts (v : View) (text : List ℕ) (report : Reported) (w : View) : Type 0 where
  pub words : List Lexeme
  pub end : Place
  pub next : Token
  pub written : IsWrittenAlone text words end next
  pub alone : next.kind ≡ End
  pub makes : Makes v words report w

-- no declaration begins at this byte: only comments and white space are left, or the end of the text is marked
abbrev pub HasNoMore : List ℕ → ℕ → Type 0
HasNoMore text from = (only : Token) × (first_token text from ≡ Ok only) × (only.kind ≡ End)

-- what comes next in a text of declarations: none, or one that is made
abbrev pub Comes : View → List ℕ → ℕ → Next → View → Type 0
Comes v text from nexts.End w = HasNoMore text from × (w ≡ v)
Comes v text from (nexts.Done report upto at) w = AcceptsFrom v text from (reported report) upto w × (at ≡ place_of text upto)

-- The cause of a refusal of the declaration that begins at this byte; want of memory has none.
abbrev pub HasCauseFrom : View → List ℕ → ℕ → Refusal → Type 0
HasCauseFrom v text from refusals.Memory = Unit {0}
HasCauseFrom v text from (refusals.Lex place) = HasFault text from place
HasCauseFrom v text from (refusals.TooMany place) = HasTooMany text from place
HasCauseFrom v text from refusal = (HasNoMore text from → ⊥) × ((upto : ℕ) × (words : List Lexeme) × (end : Place) × IsWritten text from upto words end × IsCause v end words refusal)

-- what follows the declaration begins with a fault
pub record IsFaultBehind (text : List ℕ) (place : Place) : Type 0 where
  pub upto : ℕ
  pub words : List Lexeme
  pub end : Place
  pub written : IsWritten text 0 upto words end
  pub fault : first_token text upto ≡ Err place

-- the cause of a refusal of a text that has to be one declaration
abbrev pub HasCause : View → List ℕ → Refusal → Type 0
HasCause v text refusals.Memory = Unit {0}
HasCause v text (refusals.Lex place) = HasFault text 0 place ⊎ IsFaultBehind text place
HasCause v text (refusals.TooMany place) = HasTooMany text 0 place
HasCause v text refusal = (words : List Lexeme) × (end : Place) × (next : Token) × IsWrittenAlone text words end next × IsCauseAlone v end words next refusal

-- a refused text, and the line that says why
abbrev pub Refuses : View → List ℕ → List ℕ → List ℕ → Type 0
Refuses v origin text line = (refusal : Refusal) × HasCause v text refusal × (line ≡ refusal_line origin refusal)

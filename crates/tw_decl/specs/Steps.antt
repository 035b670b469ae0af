-- What the steps of a declaration come to. The proofs need these; the definitions of a declaration don't speak of them.
use Rattle.std.specs.Prelude.{◌≡◌, ◌⊎◌, ℕ, List, [], ◌∷◌, ◌++◌, map as each, Bool, true, false, codes, Option, None, Some, Vec, MatchResult, ◌||◌, not, if◌then◌else◌}
use Rattle.std.specs.Global.{Global}
use Rattle.std.specs.declared.result.Result.{Result}
use Rattle.tw_lexer.specs.Tokens.{HasFault, HasTooMany}
use Rattle.tw_lexer.specs.declared.place.Place.{Place}
use Rattle.tw_lexer.specs.declared.token.Token.{Token}
use Rattle.tw_lexer.specs.declared.token.TokenKind.{TokenKind}
use Rattle.tw_lexer.specs.declared.token.TokenKind.TheVariants.{Dot, End}
use Rattle.tw_lexer.specs.Cut.{cut_after, is_done}
use Rattle.tw_lexer.specs.declared.cut.Cut.TheVariants.{Plain}
use Rattle.tw_parse.specs.Queries.{QueryFaultStands, query_of}
use Rattle.tw_parse.specs.declared.query.ExtQuery.{ExtQuery}
use Rattle.tw_decl.specs.Question.{IsReadAsQuery}
use Rattle.tw_parse.specs.Words.{Lexeme}
use Rattle.tw_parse.specs.declared.fault.SyntaxFault.{SyntaxFault}
use Rattle.tw_parse.specs.declared.fault.SyntaxFault.TheVariants as faults
use Rattle.tw_parse.specs.declared.decl.ExtName.{ExtName}
use Rattle.tw_recon.specs.declared.fault.ReconFault.{ReconFault}
use Rattle.tw_recon.specs.declared.fault.ReconFault.TheVariants as reconstructions
use Rattle.tw_metas.specs.declared.left.LeftEquation.{LeftEquation}
use Rattle.lf.specs.Entries.{Entry}
use Rattle.lf.specs.Subordination.{Block as PlainBlock}
use Rattle.lf.specs.Syntax.{Kind, LfType}
use Rattle.lf_checks.specs.Clauses.{ClauseName}
use Rattle.lf_checks.specs.Marks.{Mark}
use Rattle.lf_checks.specs.ModeForms.{full_marks}
use Rattle.tw_clause.specs.View.{block_of, mark_of as plain_mark, worlds_of}
use Rattle.tw_clause.specs.declared.block.Block.{Block}
use Rattle.tw_clause.specs.declared.block.Worlds.{Worlds}
use Rattle.tw_clause.specs.declared.name.Mark3.{Mark3}
use Rattle.tw_print.specs.Names.{constant_word}
use Rattle.tw_decl.specs.View.{View, scene_of}
use Rattle.tw_decl.specs.Modes.{HasFullForm, clause_word}
use Rattle.lf_checks.specs.Order as lf
use Rattle.tw_clause.specs.Orders.{order_of}
use Rattle.tw_clause.specs.declared.order.Order.{Order}
use Rattle.tw_order.specs.Rows.{families_of}
use Rattle.tw_parse_checks.specs.Checks as written
use Rattle.tw_decl.specs.Termination.{AreAtInputs, IsAtInputs, IsFirstCall, order_by, orders_given}
use Rattle.tw_decl.specs.Applications as plain
use Rattle.tw_decl.specs.Applications.{NameFamilies, all_take_just, takes_just}
use Rattle.tw_decl.specs.Blocks.{HasBlockForm, block_by}
use Rattle.tw_decl.specs.Labels.{block_named}
use Rattle.tw_decl.specs.Operators.{newest}
use Rattle.tw_decl.specs.Worlds.{GoesDeep, IsIllWorlded, are_labels}
use Rattle.tw_decl.specs.declared.applications.Application.{Application}
use Rattle.tw_signature.specs.Names.{number_of}
use Rattle.tw_terms.specs.declared.canonical.ConstId.{ConstId}
use Rattle.tw_decl.specs.Equations.{left_text}
use Rattle.tw_decl.specs.Reading.{Reads, ReadFault, read_of}
use Rattle.tw_decl.specs.declared.reading.Written.{Written}
use Rattle.tw_decl.specs.declared.refusal.Refusal.{Refusal}
use Rattle.tw_decl.specs.declared.refusal.Refusal.TheVariants as refusals

-- the cause of a refusal of tokens
abbrev pub IsTokenCause : List ℕ → ℕ → Refusal → Type 0
IsTokenCause text from refusals.Memory = Unit {0}
IsTokenCause text from (refusals.Lex place) = HasFault text from place
IsTokenCause text from (refusals.TooMany place) = HasTooMany text from place
IsTokenCause text from _ = ⊥

-- a fault of the grammar as a refusal
abbrev pub refusal_of : SyntaxFault → Refusal
refusal_of (faults.Unsupported name place) = refusals.Unsupported place name
refusal_of (faults.Nesting place) = refusals.Nesting place
refusal_of (faults.Syntax place) = refusals.Syntax place
refusal_of (faults.Fixity place) = refusals.Fixity place
refusal_of (faults.BadDecl place) = refusals.BadDecl place
refusal_of faults.NoMemory = refusals.Memory

-- whether a fault of the grammar is told before what follows the declaration is looked at
abbrev pub is_first : SyntaxFault → Bool
is_first (faults.Fixity place) = false
is_first (faults.BadDecl place) = false
is_first _ = true

abbrev pub is_end : TokenKind → Bool
is_end End = true
is_end _ = false

-- whether only the end of the text is left
abbrev pub is_over : List Token → Bool
is_over [] = true
is_over (t ∷ ts) = is_end t.kind

-- the refusal of a fault where this token follows
abbrev pub refused_alone : SyntaxFault → Token → Refusal
refused_alone fault next = if is_first fault || is_end next.kind then refusal_of fault else refusals.Syntax next.at

-- what the grammar makes of the words
abbrev pub IsParsed : View → Place → List Lexeme → Result Written SyntaxFault → Type 0
IsParsed v end words parsed = MatchResult parsed (λ r. Reads v words (read_of r)) (ReadFault v end words)

-- what the grammar makes of the words of a query
abbrev pub IsParsedQuery : View → Place → List Lexeme → Result ExtQuery SyntaxFault → Type 0
IsParsedQuery v end words parsed = MatchResult parsed (λ q. IsReadAsQuery v words (query_of q)) (QueryFaultStands v.fixities end words)

-- whether a text asks nothing whose first token is of this kind, and where this token follows the dot
abbrev pub nothing_by : List ℕ → TokenKind → Token → Bool
nothing_by text Dot next = is_end next.kind
nothing_by text End next = not (is_done (cut_after Plain text))
nothing_by text _ next = false

abbrev pub asks_nothing : List ℕ → List Token → Token → Bool
asks_nothing text [] next = false
asks_nothing text (t ∷ ts) next = nothing_by text t.kind next

-- a name that isn't declared, or want of memory
abbrev pub NamesUnknown : ExtName → Refusal → Type 0
NamesUnknown x refusals.Memory = Unit {0}
NamesUnknown x (refusals.Unknown place name) = (place ≡ x.at) × (name ≡ x.name)
NamesUnknown x _ = ⊥

-- want of memory, or this name at this place as a form that is unknown
abbrev pub ShowsType : Place → Refusal → Type 0
ShowsType at refusals.Memory = Unit {0}
ShowsType at (refusals.Unsupported place shown) = (place ≡ at) × (shown ≡ codes "type")
ShowsType at _ = ⊥

-- a fault of a reconstruction as a refusal, where the first token stands here
abbrev pub IsRefusedFor : View → Place → ReconFault → Refusal → Type 0
IsRefusedFor v first fault refusals.Memory = Unit {0}
IsRefusedFor v first fault (refusals.Unknown place name) = fault ≡ reconstructions.Unknown name place
IsRefusedFor v first fault (refusals.Unsupported place shown) = (((fault ≡ reconstructions.TypeLevel None) × (place ≡ first)) ⊎ (fault ≡ reconstructions.TypeLevel (Some place))) × (shown ≡ codes "type")
IsRefusedFor v first fault (refusals.Loose place) = (fault ≡ reconstructions.Loose) × (place ≡ first)
IsRefusedFor v first fault (refusals.Mismatch place) = (fault ≡ reconstructions.Mismatch) × (place ≡ first)
IsRefusedFor v first fault (refusals.Leftover place text) = ((left : LeftEquation) × (fault ≡ reconstructions.Leftover left) × (text.items ≡ left_text v left)) × (place ≡ first)
IsRefusedFor v first fault (refusals.TooDeep place) = (fault ≡ reconstructions.TooDeep) × (place ≡ first)
IsRefusedFor v first fault _ = ⊥

-- want of memory, or this equation at this place
abbrev pub ShowsLeft : View → Place → LeftEquation → Refusal → Type 0
ShowsLeft v first left refusals.Memory = Unit {0}
ShowsLeft v first left (refusals.Leftover place text) = (place ≡ first) × (text.items ≡ left_text v left)
ShowsLeft v first left _ = ⊥

-- want of memory, or a family without a mode at this place
abbrev pub ShowsUnmoded : View → Place → ℕ → Refusal → Type 0
ShowsUnmoded v first family refusals.Memory = Unit {0}
ShowsUnmoded v first family (refusals.NotDeclared place text) = (text.items ≡ codes "mode " ++ constant_word (scene_of v) family) × (place ≡ first)
ShowsUnmoded v first family _ = ⊥

-- want of memory, or a fault of this clause at this place
abbrev pub ShowsFault : View → Place → ClauseName → ℕ → ℕ → Refusal → Type 0
ShowsFault v first name k j refusals.Memory = Unit {0}
ShowsFault v first name k j (refusals.ModeFault place clause l i) = (clause.items ≡ clause_word (scene_of v) name) × (l ≡ k) × (i ≡ j) × (place ≡ first)
ShowsFault v first name k j _ = ⊥

-- what the full form's entry comes to: marks, or none where it has not the form
abbrev pub FullOutcome : List Mark → Entry → Option (Vec Mark3 Global) → Type 0
FullOutcome ms e (Some marks) = (U : LfType) × HasFullForm e U × (each plain_mark marks.items ≡ full_marks ms U)
FullOutcome ms e None = (U : LfType) → HasFullForm e U → ⊥

-- what a family on its arguments in memory says
abbrev pub application_of : Application → plain.Application
application_of x = plain.on x.family.now x.count

-- the number of the family, or that it isn't one with just so many arguments
abbrev pub IsTaken : List Entry → plain.Application → Option ConstId → Type 0
IsTaken es x (Some id) = (number_of es x.family.name ≡ Some id.0) × (takes_just x.count (newest es x.family.name) ≡ true)
IsTaken es x None = takes_just x.count (newest es x.family.name) ≡ false

-- those of all of them
abbrev pub AreTaken : List Entry → List plain.Application → Option (Vec ConstId Global) → Type 0
AreTaken es xs (Some ids) = NameFamilies es xs (each (λ (id : ConstId). id.0) ids.items) × (all_take_just es xs ≡ true)
AreTaken es xs None = all_take_just es xs ≡ false

-- the order, whose places are all chosen, or that some place isn't
abbrev pub IsOrderAt : List Bool → lf.Order → Option Order → Type 0
IsOrderAt m P (Some o) = (order_of o ≡ P) × lf.IsAtPlaces m P
IsOrderAt m P None = lf.IsAtPlaces m P → ⊥

-- the family of call pattern k and its order, or that some place isn't an input
abbrev pub IsRowOf : View → ℕ → written.Order → written.Call → Option (ConstId × Order) → Type 0
IsRowOf v k O p (Some r) = (number_of v.signature p.family.name ≡ Some r.0.0) × (order_of r.1 ≡ order_by v.signature k O p) × IsAtInputs v (Some r.0.0) (order_by v.signature k O p)
IsRowOf v k O p None = IsAtInputs v (number_of v.signature p.family.name) (order_by v.signature k O p) → ⊥

-- those of all call patterns
abbrev pub AreRowsOf : View → written.Order → List written.Call → Option (Vec (ConstId × Order) Global) → Type 0
AreRowsOf v O ps (Some rows) = NameFamilies v.signature (each plain.application_of ps) (families_of rows.items) × (each (λ (r : ConstId × Order). order_of r.1) rows.items ≡ orders_given v.signature 0 O ps) × AreAtInputs v 0 O ps
AreRowsOf v O ps None = AreAtInputs v 0 O ps → ⊥

-- want of memory, or a clause that doesn't descend at this place
abbrev pub ShowsCall : View → Place → ClauseName → ℕ → Refusal → Type 0
ShowsCall v first name k refusals.Memory = Unit {0}
ShowsCall v first name k (refusals.OrderFault place clause l) = (clause.items ≡ clause_word (scene_of v) name) × (l ≡ k) × (place ≡ first)
ShowsCall v first name k _ = ⊥

-- want of memory, or the first call that doesn't descend by these orders
abbrev pub CallFails : View → List (ConstId × Order) → Place → Refusal → Type 0
CallFails v rows first refusals.Memory = Unit {0}
CallFails v rows first (refusals.OrderFault place clause k) = ((name : ClauseName) × IsFirstCall v rows name k × (clause.items ≡ clause_word (scene_of v) name)) × (place ≡ first)
CallFails v rows first _ = ⊥

-- want of memory, or a clause that isn't well-worlded at this place
abbrev pub ShowsWorldFault : View → Place → ClauseName → ℕ → Refusal → Type 0
ShowsWorldFault v first name k refusals.Memory = Unit {0}
ShowsWorldFault v first name k (refusals.WorldFault place clause l) = (clause.items ≡ clause_word (scene_of v) name) × (l ≡ k) × (place ≡ first)
ShowsWorldFault v first name k _ = ⊥

-- want of memory, the first clause that isn't well-worlded in these worlds, or a subgoal that is left open
abbrev pub WorldsFail : View → List ℕ → List PlainBlock → Place → Refusal → Type 0
WorldsFail v families W first refusals.Memory = Unit {0}
WorldsFail v families W first (refusals.WorldFault place clause k) = ((name : ClauseName) × IsIllWorlded v families W name k × (clause.items ≡ clause_word (scene_of v) name)) × (place ≡ first)
WorldsFail v families W first (refusals.TooDeep place) = GoesDeep v families W × (place ≡ first)
WorldsFail v families W first _ = ⊥

-- the blocks that labels name, or that one of them is no block's label
abbrev pub AreBlocksNamed : View → List ExtName → Option Worlds → Type 0
AreBlocksNamed v ls (Some worlds) = each (λ l. block_named v l.name) ls ≡ each Some (worlds_of worlds)
AreBlocksNamed v ls None = are_labels v ls ≡ false

-- what the entry of a block comes to: the block of its kind, or that it has not the form
abbrev pub BlockOutcome : List ℕ → ℕ → Entry → Option Block → Type 0
BlockOutcome label n e (Some b) = (K : Kind) × HasBlockForm e K × (block_of b ≡ block_by label n K)
BlockOutcome label n e None = (K : Kind) → HasBlockForm e K → ⊥

-- blocks with the same entries, without labels and `some` variables
abbrev pub entries_alone : List PlainBlock → List PlainBlock
entries_alone Bs = each (λ B. record { label = []; some = []; entries = B.entries }) Bs

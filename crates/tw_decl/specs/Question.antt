-- A text of the loop of answers: what it asks, and why it is refused.
use Rattle.std.specs.Prelude.{◌≡◌, ◌≢◌, ◌⊎◌, ℕ, List, false, Ok}
use Rattle.lf.specs.Entries.{signature_of}
use Rattle.tw_lexer.specs.Cut.{cut_after, is_done}
use Rattle.tw_lexer.specs.Tokens.{first_token, HasFault, HasTooMany}
use Rattle.tw_lexer.specs.declared.cut.Cut.TheVariants.{Plain}
use Rattle.tw_lexer.specs.declared.place.Place.{Place}
use Rattle.tw_lexer.specs.declared.token.Token.{Token}
use Rattle.tw_lexer.specs.declared.token.TokenKind.TheVariants.{Dot, End}
use Rattle.tw_parse.specs.Queries.{Asks, IsAskable, Query, QueryFaultStands}
use Rattle.tw_parse.specs.Words.{Lexeme, first_place}
use Rattle.tw_parse.specs.declared.fault.SyntaxFault.TheVariants as faults
use Rattle.tw_recon.specs.Queries.{IsCanonicalGoal, IsGoalOf}
use Rattle.tw_signature.specs.Goal.{Goal, goal_of}
use Rattle.tw_decl.specs.Declaration.{HasNoMore, IsFaultBehind, IsWrittenAlone}
use Rattle.tw_decl.specs.Refusals.{refusal_line}
use Rattle.tw_decl.specs.Unanswered.{IsNotAsked}
use Rattle.tw_decl.specs.View.{View}
use Rattle.tw_decl.specs.declared.question.Question.{Question}
use Rattle.tw_decl.specs.declared.question.Question.TheVariants as questions
use Rattle.tw_decl.specs.declared.refusal.Refusal.{Refusal}
use Rattle.tw_decl.specs.declared.refusal.Refusal.TheVariants as refusals

-- the words are this query: no cause that is told before the grammar stands, and they have this reading
pub record IsReadAsQuery (v : View) (words : List Lexeme) (q : Query) : Type 0 where
  pub askable : IsAskable words
  pub asks : Asks v.fixities words q

-- A text that is one query, with nothing but comments and white space behind its dot: the goal is the principal completion of what it asks, and its first token stands at this place.
pub record AsksFor (v : View) (text : List ℕ) (g : Goal) (at : Place) : Type 0 where
  pub words : List Lexeme
  pub end : Place
  pub next : Token
  pub query : Query
  pub written : IsWrittenAlone text words end next
  pub alone : next.kind ≡ End
  pub reads : IsReadAsQuery v words query
  pub is_goal : IsGoalOf v.signature query g
  pub place : at ≡ first_place end words

-- the only token of the text is a dot
pub record IsDotAlone (text : List ℕ) : Type 0 where
  pub dot : Token
  pub next : Token
  pub is_first : first_token text 0 ≡ Ok dot
  pub is_dot : dot.kind ≡ Dot
  pub follower : first_token text dot.upto ≡ Ok next
  pub alone : next.kind ≡ End

-- A text asks nothing where its only token is a dot, or where it has none and ended without a dot, as at the end of the input.
abbrev pub AsksNothing : List ℕ → Type 0
AsksNothing text = IsDotAlone text ⊎ (HasNoMore text 0 × (is_done (cut_after Plain text) ≡ false))

-- what a text asks
abbrev pub Says : View → List ℕ → Question → Type 0
Says v text questions.Nothing = AsksNothing text
Says v text (questions.Answers g at) = AsksFor v text (goal_of g) at

-- a goal may be asked over the signature
abbrev pub MayBeAsked : View → Question → Type 0
MayBeAsked v questions.Nothing = Unit {0}
MayBeAsked v (questions.Answers g at) = IsCanonicalGoal (signature_of v.signature) (goal_of g)

-- what the words ask has no goal
pub record HasNoGoal (v : View) (end : Place) (words : List Lexeme) (refusal : Refusal) : Type 0 where
  pub query : Query
  pub reads : IsReadAsQuery v words query
  pub obstacle : IsNotAsked v query.goal (first_place end words) refusal

-- the causes that are told before what follows the dot is looked at; want of memory has none
abbrev pub IsFirstQueryCause : View → Place → List Lexeme → Refusal → Type 0
IsFirstQueryCause v end words refusals.Memory = Unit {0}
IsFirstQueryCause v end words (refusals.Unsupported place name) = QueryFaultStands v.fixities end words (faults.Unsupported name place)
IsFirstQueryCause v end words (refusals.Nesting place) = QueryFaultStands v.fixities end words (faults.Nesting place)
IsFirstQueryCause v end words (refusals.Syntax place) = QueryFaultStands v.fixities end words (faults.Syntax place)
IsFirstQueryCause v end words _ = ⊥

-- the causes behind them
abbrev pub IsLastQueryCause : View → Place → List Lexeme → Refusal → Type 0
IsLastQueryCause v end words (refusals.Fixity place) = QueryFaultStands v.fixities end words (faults.Fixity place)
IsLastQueryCause v end words (refusals.BadDecl place) = QueryFaultStands v.fixities end words (faults.BadDecl place)
IsLastQueryCause v end words refusal = HasNoGoal v end words refusal

-- no cause through `Syntax` stands
abbrev pub IsQueryPastSyntax : View → Place → List Lexeme → Type 0
IsQueryPastSyntax v end words =
    ((q : Query) × IsReadAsQuery v words q) ⊎ ((place : Place) × QueryFaultStands v.fixities end words (faults.Fixity place)) ⊎ ((place : Place) × QueryFaultStands v.fixities end words (faults.BadDecl place))

-- a token that follows is refused where it stands, behind the first causes and before the last ones
abbrev pub IsQueryFollowed : View → Place → List Lexeme → Token → Refusal → Type 0
IsQueryFollowed v end words next (refusals.Syntax place) = (next.kind ≢ End) × (place ≡ next.at) × IsQueryPastSyntax v end words
IsQueryFollowed v end words next _ = ⊥

abbrev pub IsQueryCause : View → Place → List Lexeme → Token → Refusal → Type 0
IsQueryCause v end words next refusal = IsFirstQueryCause v end words refusal ⊎ IsQueryFollowed v end words next refusal ⊎ ((next.kind ≡ End) × IsLastQueryCause v end words refusal)

-- the causes that the words of a text have, where it asks something
pub record RefusesWords (v : View) (text : List ℕ) (refusal : Refusal) : Type 0 where
  pub asks : AsksNothing text → ⊥
  pub words : List Lexeme
  pub end : Place
  pub next : Token
  pub written : IsWrittenAlone text words end next
  pub cause : IsQueryCause v end words next refusal

-- the cause of a refusal of a text that has to be one query
abbrev pub HasQueryCause : View → List ℕ → Refusal → Type 0
HasQueryCause v text refusals.Memory = Unit {0}
HasQueryCause v text (refusals.Lex place) = HasFault text 0 place ⊎ IsFaultBehind text place
HasQueryCause v text (refusals.TooMany place) = HasTooMany text 0 place
HasQueryCause v text refusal = RefusesWords v text refusal

-- a refused text, and the line that says why
abbrev pub RefusesQuery : View → List ℕ → List ℕ → List ℕ → Type 0
RefusesQuery v origin text line = (refusal : Refusal) × HasQueryCause v text refusal × (line ≡ refusal_line origin refusal)

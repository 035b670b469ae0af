-- What the steps of a search come to. The proofs need these; the definitions of a declaration don't speak of them.
use Rattle.std.specs.Prelude.{◌≡◌, ◌≢◌, ℕ, List, [], ◌∷◌, None, Some}
use Rattle.lf.specs.Entries.{Entry, signature_of}
use Rattle.lf.specs.Syntax.{LfType, Term, atom, pi}
use Rattle.lf.specs.Typing.{instantiate_type}
use Rattle.tw_lexer.specs.declared.place.Place.{Place}
use Rattle.tw_metas.specs.declared.left.LeftEquation.{LeftEquation}
use Rattle.tw_parse_queries.specs.declared.search.ExtBound.{ExtBound}
use Rattle.tw_parse_queries.specs.declared.search.ExtBound.TheVariants.{Number}
use Rattle.tw_query.specs.Runs.{IsTypedAnswer, answers_in}
use Rattle.tw_query.specs.declared.run.Leaf.{Leaf}
use Rattle.tw_query.specs.declared.run.Leaf.TheVariants as leaf
use Rattle.tw_query.specs.declared.run.QueryEnd.{QueryEnd}
use Rattle.tw_query.specs.declared.run.QueryEnd.TheVariants as ends
use Rattle.tw_parse.specs.Syntax as written
use Rattle.tw_recon.specs.Causes.{BodyReachesDeep}
use Rattle.tw_search.specs.declared.answer.Answer.{Answer}
use Rattle.tw_signature.specs.Goal.{Goal}
use Rattle.tw_decl.specs.Equations.{left_text}
use Rattle.tw_decl.specs.Searching.{first_left}
use Rattle.tw_decl.specs.Solutions.{IsSolution}
use Rattle.tw_decl.specs.View.{View}
use Rattle.tw_decl.specs.declared.refusal.Refusal.{Refusal}
use Rattle.tw_decl.specs.declared.refusal.Refusal.TheVariants as refusals

-- an answer among the leaves is one of the goal
abbrev pub IsAnswerLeaf : List Entry → Goal → Leaf → Type 0
IsAnswerLeaf es g (leaf.Answer a) = IsTypedAnswer (signature_of es) g a
IsAnswerLeaf es g (leaf.Outside left) = Unit {0}

abbrev pub AreAnswers : List Entry → Goal → List Leaf → Type 0
AreAnswers es g [] = Unit {0}
AreAnswers es g (x ∷ xs) = IsAnswerLeaf es g x × AreAnswers es g xs

-- Why answers aren't as expected: the search came to its end with this equation left, or another number was found.
abbrev pub IsUnexpected : View → ExtBound → List Leaf → QueryEnd → Place → Refusal → Type 0
IsUnexpected v e leaves end first refusals.Memory = Unit {0}
IsUnexpected v e leaves end first (refusals.Leftover place text) =
    ((n : ℕ) × (e ≡ Number n)) × (end ≡ ends.Incomplete) × ((left : LeftEquation) × (first_left leaves ≡ Some left) × (text.items ≡ left_text v left)) × (place ≡ first)
IsUnexpected v e leaves end first (refusals.Count place found expected) = (e ≡ Number expected) × (end ≢ ends.Incomplete) × (found ≡ answers_in leaves) × (found ≢ expected) × (place ≡ first)
IsUnexpected v e leaves end first _ = ⊥

-- Why leaves without an answer give no definition: this equation is left first, or none is.
abbrev pub HasNoSolution : View → List Leaf → Place → Refusal → Type 0
HasNoSolution v leaves first refusals.Memory = Unit {0}
HasNoSolution v leaves first (refusals.Leftover place text) = ((left : LeftEquation) × (first_left leaves ≡ Some left) × (text.items ≡ left_text v left)) × (place ≡ first)
HasNoSolution v leaves first (refusals.NoAnswer place) = (first_left leaves ≡ None) × (place ≡ first)
HasNoSolution v leaves first _ = ⊥

-- want of memory, or the definition that the answer gives is deep
abbrev pub IsDeepEntry : View → List ℕ → written.Term → Goal → Answer → Place → Refusal → Type 0
IsDeepEntry v c A g a first refusals.Memory = Unit {0}
IsDeepEntry v c A g a first (refusals.TooDeep place) = ((e : Entry) × IsSolution c A g a e × BodyReachesDeep (signature_of v.signature) e.body) × (place ≡ first)
IsDeepEntry v c A g a first _ = ⊥

-- the type that is left of a type behind its first quantifiers, for which terms are put in
abbrev pub type_left : LfType → List Term → LfType
type_left A [] = A
type_left (pi A B) (M ∷ Ms) = type_left (instantiate_type A M B) Ms
type_left (atom a S) (M ∷ Ms) = atom a S

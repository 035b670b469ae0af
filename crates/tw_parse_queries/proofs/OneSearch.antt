-- Tokens are one declaration that searches at most.
use Rattle.std.proofs.Common.{◌≡◌, List, [], ◌∷◌, Some, refl, sym, ap, subst, ◌∙◌}
use Rattle.tw_lexer.specs.declared.place.Place.{Place}
use Rattle.tw_parse.specs.Faults.{Ends}
use Rattle.tw_parse.specs.Outlines.{Table, Outline, Shapes, declares}
use Rattle.tw_parse.specs.Queries.{goal_tokens}
use Rattle.tw_parse.specs.Readings.{Means, FirstFault, of_first, declared, Declares}
use Rattle.tw_parse.specs.Syntax.{Term, declare}
use Rattle.tw_parse.specs.Words.{Lexeme}
use Rattle.tw_parse.specs.declared.words.Word.TheVariants.{Name, Colon}
use Rattle.tw_parse.proofs.Failing.{a_word}
use Rattle.tw_parse.proofs.OneReading.{one_reading}
use Rattle.tw_parse_queries.specs.Laws.{SearchIsUnique}
use Rattle.tw_parse_queries.specs.Searches.{Search, Header, counts, names, Heads, of_query, of_solve, Aims, wanted}
use Rattle.tw_parse_queries.specs.declared.keywords.Form.TheVariants.{Query, Solve}

record SameHeader (h i : Header) (goal other : List Lexeme) : Type 0 where
  headers : h ≡ i
  goals : goal ≡ other

header_once : {tokens goal other : List Lexeme} {h i : Header} → Heads tokens h goal → Heads tokens i other → SameHeader h i goal other
header_once (of_query w f e t) (of_query x g d s) = record { headers = refl; goals = refl }
header_once (of_query w f e t) (of_solve x g c l) = let clash : Some Query ≡ Some Solve = sym f ∙ g in absurd cc
header_once (of_solve w f c l) (of_query x g e t) = let clash : Some Solve ≡ Some Query = sym f ∙ g in absurd cc
header_once (of_solve w f c l) (of_solve x g d k) = record { headers = refl; goals = refl }

-- a sequence and a dot as the type of a name
as_type : Place → List Lexeme → List Lexeme
as_type at tokens = a_word at Name ∷ a_word at Colon ∷ tokens

declares_once : (table : Table) (at : Place) (tokens : List Lexeme) (O : Outline) → Ends table tokens O → Shapes table (as_type at tokens) (declare [] at O)
unfolding as_type
declares_once table at tokens O e = declares refl refl e.2 e.1

term_once : (table : Table) (tokens : List Lexeme) (O P : Outline) (A B : Term) → Ends table tokens O → Means O A → Ends table tokens P → Means P B → B ≡ A
term_once table tokens O P A B e m f n =
    let at : Place = e.0.at in
    let first : Declares table (as_type at tokens) (declare [] at A) = (declare [] at O, declares_once table at tokens O e, declared m) in
    let second : Declares table (as_type at tokens) (declare [] at B) = (declare [] at P, declares_once table at tokens P f, declared n) in
    let same : declare [] at B ≡ declare [] at A = (one_reading table (as_type at tokens) (declare [] at A) first).0 (declare [] at B) second in
    cc

no_fault : (table : Table) (tokens : List Lexeme) (O P : Outline) (A : Term) (place : Place) → Ends table tokens O → Means O A → Ends table tokens P → FirstFault P place → ⊥
no_fault table tokens O P A place e m f fault =
    let at : Place = e.0.at in
    let first : Declares table (as_type at tokens) (declare [] at A) = (declare [] at O, declares_once table at tokens O e, declared m) in
    (one_reading table (as_type at tokens) (declare [] at A) first).1 (declare [] at P) place (declares_once table at tokens P f) (of_first fault)

-- the tokens of the goal and its dot
aimed : Header → List Lexeme → List Lexeme
aimed (counts e t) tokens = goal_tokens tokens
aimed (names c at) tokens = tokens

ends_of : (table : Table) (h : Header) (tokens : List Lexeme) (O : Outline) → Aims table h tokens O → Ends table (aimed h tokens) O
unfolding aimed
ends_of table (counts e t) tokens O a = a
ends_of table (names c at) tokens O a = a

-- what is searched for behind a header
abbrev Behind : Table → Search → Header → List Lexeme → Type 0
Behind table s h goal = (O : Outline) × Aims table h goal O × ((A : Term) × Means O A × (wanted h goal A ≡ Some s))

once : (table : Table) (h : Header) (goal : List Lexeme) (s r : Search) → Behind table s h goal → Behind table r h goal → r ≡ s
once table h goal s r a b =
    let same : b.2.0 ≡ a.2.0 = term_once table (aimed h goal) a.0 b.0 a.2.0 b.2.0 (ends_of table h goal a.0 a.1) a.2.1 (ends_of table h goal b.0 b.1) b.2.1 in
    let wants : Some r ≡ Some s = sym b.2.2 ∙ ap (wanted h goal) same ∙ a.2.2 in
    cc

clear : (table : Table) (h : Header) (goal : List Lexeme) (s : Search) (O : Outline) (place : Place) → Behind table s h goal → Aims table h goal O → FirstFault O place → ⊥
clear table h goal s O place a b fault = no_fault table (aimed h goal) a.0 O a.2.0 place (ends_of table h goal a.0 a.1) a.2.1 (ends_of table h goal O b) fault

pub one_search : SearchIsUnique
one_search table tokens s a = (
  λ r b.
      let same : SameHeader a.0 b.0 a.1 b.1 = header_once a.2 b.2 in
      let moved : Behind table r a.0 a.1 = subst (λ goal. Behind table r a.0 goal) (sym same.goals) (subst (λ h. Behind table r h b.1) (sym same.headers) b.3) in
      once table a.0 a.1 s r a.3 moved,
  λ h goal O place heads aims fault.
      let same : SameHeader a.0 h a.1 goal = header_once a.2 heads in
      let moved : Aims table a.0 a.1 O = subst (λ us. Aims table a.0 us O) (sym same.goals) (subst (λ i. Aims table i goal O) (sym same.headers) aims) in
      clear table a.0 a.1 s O place a.3 moved fault,
)

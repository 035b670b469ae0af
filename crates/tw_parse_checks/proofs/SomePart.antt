-- What stands between the label and the entries of a block.
use Rattle.std.proofs.Common.{◌≡◌, ℕ, ◌+◌, List, [], ◌∷◌, Ok, Err, IfOk, IfErr, codes, refl, sym, subst, ◌∙◌}
use Rattle.std.specs.declared.result.Result.{Result}
use Rattle.tw_lexer.specs.declared.place.Place.{Place}
use Rattle.tw_parse.specs.Sources.{lexemes_from}
use Rattle.tw_parse.specs.Words.{Lexeme, lexemes}
use Rattle.tw_parse.specs.declared.fault.SyntaxFault.{SyntaxFault}
use Rattle.tw_parse.specs.declared.fault.SyntaxFault.TheVariants.{Unsupported, Nesting, Syntax, Fixity, BadDecl, NoMemory}
use Rattle.tw_parse.specs.declared.source.Source.{Source}
use Rattle.tw_parse.specs.declared.words.Word.TheVariants.{Name}
use Rattle.tw_parse.proofs.Building.{Token}
use Rattle.tw_parse_checks.specs.Faults.{StopsInBinder}
use Rattle.tw_parse_checks.specs.Parts.{SaysFirst, IsSomePart, SomeFault, StopsInSome, TellAll, AreBinders, HasNoBinder, BinderFault}
use Rattle.tw_parse_checks.specs.Shapes.{Row, Binder, TakesBinder, TakesSome, no_some, some_binders, Says}
use Rattle.tw_parse_checks.specs.declared.bound.Bound.{Bound}
use Rattle.tw_parse_checks.proofs.CallTokens.{says_first}
use Rattle.tw_parse_checks.proofs.Faults.{no_binder_stop}
use Rattle.tw_parse_checks.proofs.Openings.{binders_once, one_word, word_is_no_binder}
use Rattle.tw_parse_checks.proofs.Rows.{row_once}
use Rattle.tw_parse_checks.proofs.Tokens.{token}

-- a word that stands here
a_says : (w : Lexeme) (rest : List Lexeme) (word : List ℕ) → Says word w → SaysFirst word (w ∷ rest)
a_says w rest word s = s

pub nothing_some : (source : Source) (from : ℕ) (none : Bound) → (SaysFirst (codes "some") (lexemes_from source from) → ⊥) → none.variables.items ≡ [] → none.domains.items ≡ [] → IsSomePart source from none from
nothing_some source from none isnt variables domains =
    record {
      binders = [];
      takes = no_some;
      are = (variables, subst (λ ps. TellAll [] ps) (sym domains) tt);
      only = λ rs w behind t b. by_takes t refl;
      no_stop = λ place s. isnt (subst (SaysFirst (codes "some")) (sym s.2) (a_says s.0 s.1 (codes "some") s.3));
    }
  where
    by_takes : {tokens rest : List Lexeme} {rs : List Binder} → TakesSome source.fixities.now tokens rs rest → tokens ≡ lexemes_from source from → lexemes_from source from ≡ rest
    by_takes no_some e = sym e
    by_takes (some_binders {word = w} {tokens = ts} s r) e = absurd (isnt (subst (SaysFirst (codes "some")) e (a_says w ts (codes "some") s)))

some_stand : (source : Source) (from upto : ℕ) (bound : Bound) → SaysFirst (codes "some") (lexemes_from source from) → AreBinders source (from + 1) bound upto → HasNoBinder source.fixities.now (lexemes_from source upto) → IsSomePart source from bound upto
some_stand source from upto bound says are none =
    let table = source.fixities.now in
    let w : Token (lexemes source.text.now source.tokens.now) from (from + 1) Name = token (lexemes source.text.now source.tokens.now) from (from + 1) Name refl says.0 (λ e. cc) in
    let word : Says (codes "some") w.0 = says_first (codes "some") w.1 says in
    record {
      binders = are.0;
      takes = subst (λ (ts : List Lexeme). TakesSome table ts are.0 (lexemes_from source upto)) (sym w.1) (some_binders word are.1);
      are = are.2;
      only = λ rs v behind t b. by_takes rs v behind b w.0 (lexemes_from source (from + 1)) word t w.1 are.1;
      no_stop = λ place s. by_stop place s w.0 w.1;
    }
  where
    by_takes : (rs : List Binder) (v : Lexeme) (behind : List Lexeme) → Says (codes "block") v → (w : Lexeme) (ts : List Lexeme) → Says (codes "some") w → {tokens : List Lexeme} → TakesSome source.fixities.now tokens rs (v ∷ behind) → tokens ≡ w ∷ ts
        → Row (TakesBinder source.fixities.now) ts are.0 (lexemes_from source upto) → lexemes_from source upto ≡ v ∷ behind
    by_takes rs v behind b w ts s no_some e row = let same : v ≡ w = cc in absurd (one_word w s (subst (Says (codes "block")) same b))
    by_takes rs v behind b w ts s (some_binders {word = u} {tokens = us} q r) e row =
        let tails : us ≡ ts = cc in
        (row_once (TakesBinder source.fixities.now) (binders_once source.fixities.now) row (subst (λ (xs : List Lexeme). Row (TakesBinder source.fixities.now) xs rs (v ∷ behind)) tails r) none.0 (word_is_no_binder source.fixities.now (codes "block") v behind b).0).1

    by_stop : (place : Place) → StopsInSome source from place → (w : Lexeme) → lexemes_from source from ≡ w ∷ lexemes_from source (from + 1) → ⊥
    by_stop place s w e =
        let both : w ∷ lexemes_from source (from + 1) ≡ s.0 ∷ s.1 = sym e ∙ s.2 in
        let tails : s.1 ≡ lexemes_from source (from + 1) = cc in
        no_binder_stop source.fixities.now source.end place are.1 none (subst (StopsInBinder source.fixities.now source.end place) tails s.4)

some_fault : (source : Source) (from : ℕ) (f : SyntaxFault) → SaysFirst (codes "some") (lexemes_from source from) → BinderFault source (from + 1) f → SomeFault source from f
some_fault source from (Syntax place) says s =
    let w : Token (lexemes source.text.now source.tokens.now) from (from + 1) Name = token (lexemes source.text.now source.tokens.now) from (from + 1) Name refl says.0 (λ e. cc) in
    (w.0, lexemes_from source (from + 1), w.1, says_first (codes "some") w.1 says, s)
some_fault source from NoMemory says s = tt
some_fault source from (Fixity place) says s = absurd s
some_fault source from (BadDecl place) says s = absurd s
some_fault source from (Nesting place) says s = absurd s
some_fault source from (Unsupported name place) says s = absurd s

pub all_some : (source : Source) (from : ℕ) (r : Result (Bound × ℕ) SyntaxFault) → SaysFirst (codes "some") (lexemes_from source from) → IfOk r (λ b. AreBinders source (from + 1) b.0 b.1) → IfOk r (λ b. HasNoBinder source.fixities.now (lexemes_from source b.1)) → IfOk r (λ b. IsSomePart source from b.0 b.1)
all_some source from (Ok b) says reads stops = some_stand source from b.1 b.0 says reads stops
all_some source from (Err f) says reads stops = tt

pub all_some_faults : (source : Source) (from : ℕ) (r : Result (Bound × ℕ) SyntaxFault) → SaysFirst (codes "some") (lexemes_from source from) → IfErr r (BinderFault source (from + 1)) → IfErr r (SomeFault source from)
all_some_faults source from (Ok b) says h = tt
all_some_faults source from (Err f) says h = some_fault source from f says h

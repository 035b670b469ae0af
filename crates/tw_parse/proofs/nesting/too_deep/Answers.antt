use Rattle.std.proofs.Common.{◌≡◌, ℕ, ◌+◌, ◌∙◌, sym, ap, arith, rules, List, [], ◌∷◌, ◌++◌, true, false, Some, None, nat_le, drop, reverse, length, append-nil, refl, Vec, Global}
use Rattle.std.proofs.lemmas.Bool.Decides.{nat_tests}
use Rattle.std.proofs.lemmas.List.{reverse-append}
use Rattle.tw_parse.specs.Words.{Lexeme, lexemes}
use Rattle.tw_parse.specs.Nesting.{bracket_of, closes}
use Rattle.tw_parse.specs.declared.nesting.Open.{Open}
use Rattle.tw_parse.proofs.Levels.{Opened, opener_step, closing_step, plain_step, outer_step, same_start}
use Rattle.tw_parse.proofs.nesting.too_deep.Goals as goal
use Rattle.tw_parse.proofs.nesting.too_deep.Goals.{in-Some+else-level-ge-LIMIT+in_ok-push, in_default+in-Some-pop+then-closes, in_default+in-Some-pop+else-closes+in_ok-push-2, in_default+in_default-pop}

no_items : (xs : List Open) → length xs ≡ 0 → xs ≡ []
no_items [] e = refl
no_items (x ∷ xs) e = absurd (omega arith)

reversed : (v w : Vec Open Global) → v ≡ w → reverse w.items ≡ reverse v.items
reversed v w e = sym (ap (λ (u : Vec Open Global). reverse u.items) e)

newest : (items rest : List Open) (top : Open) → items ≡ rest ++ top ∷ [] → reverse items ≡ top ∷ reverse rest
newest items rest top e = ap reverse e ∙ reverse-append rest (top ∷ [])

pub loop-number-preserved : goal.loop-number-preserved
loop-number-preserved c =
    let source = c.args.source.now in
    let xs : List Lexeme = lexemes source.text.now source.tokens.now in
    let i : ℕ = c.loop-number.number in
    let old : List Open = c.loop-number.brackets.items in
    let before : List Open = reverse old in
    let level : ℕ = c.loop-number.level in
    let word = c.word-word.result in
    let next : List Open = reverse c.match-bracket_of.brackets.items in
    let now : ℕ = c.match-bracket_of.level in
    let left : List Lexeme = drop (i + 1) xs in
    elim c.match-bracket_of.branch [
      | in-Some+else-level-ge-LIMIT+in_ok-push w ↦
          let below : nat_le 1000 level ≡ false = grind (arith, nat_tests) in
          let is : bracket_of word ≡ Some w.in-Some.bracket = search rules in
          let opened : Open = record { bracket = w.in-Some.bracket; behind = w.level_behind-behind.result } in
          let added : next ≡ Opened before level w.in-Some.bracket =
          sym (reversed _ _ w.brackets-is) ∙ newest w.push.new.self.items old opened w.in_ok-push.ensures.items
          ∙ ap (λ (n : ℕ). record { bracket = w.in-Some.bracket; behind = n } ∷ before) w.level_behind-behind.ensures in
          same_start next (Opened before level w.in-Some.bracket) now (level + 1) left added w.level-is
          ∙ sym (opener_step before level xs i word w.in-Some.bracket c.word-word.ensures.word is below) ∙ c.loop-number.invariant
      | in_default+in-Some-pop+then-closes w ↦
          let other : bracket_of word ≡ None = search rules in
          let rest : List Open = w.pop.new.self.items in
          let closing : closes w.in-Some-pop.top.bracket word ≡ true = search rules in
          same_start next (reverse rest) now w.in-Some-pop.top.behind left (sym (reversed _ _ w.brackets-is)) w.level-is
          ∙ sym (closing_step before (reverse rest) w.in-Some-pop.top level xs i word c.word-word.ensures.word other (newest old rest w.in-Some-pop.top w.in-Some-pop.ensures.items) closing) ∙ c.loop-number.invariant
      | in_default+in-Some-pop+else-closes+in_ok-push-2 w ↦
          let other : bracket_of word ≡ None = search rules in
          let rest : List Open = w.pop.new.self.items in
          let open_still : closes w.in-Some-pop.top.bracket word ≡ false = search rules in
          let same : next ≡ before = sym (reversed _ _ w.brackets-is) ∙ ap reverse (w.in_ok-push-2.ensures.items ∙ sym w.in-Some-pop.ensures.items) in
          same_start next before now level left same w.level-is
          ∙ sym (plain_step before (reverse rest) w.in-Some-pop.top level xs i word c.word-word.ensures.word other (newest old rest w.in-Some-pop.top w.in-Some-pop.ensures.items) open_still) ∙ c.loop-number.invariant
      | in_default+in_default-pop w ↦
          let other : bracket_of word ≡ None = search rules in
          let none : old ≡ [] = no_items old (omega (arith, w.in_default-pop.ensures.cases)) in
          let same : next ≡ before = sym (reversed _ _ w.brackets-is) ∙ ap reverse (sym (append-nil w.pop.new.self.items) ∙ sym w.in_default-pop.ensures.items) in
          same_start next before now level left same w.level-is
          ∙ sym (outer_step before level xs i word c.word-word.ensures.word other (ap reverse none)) ∙ c.loop-number.invariant
    ]

-- How an input is divided.
use Rattle.std.proofs.Common.{◌≡◌, ◌≢◌, ℕ, ◌-◌, ◌<◌, ◌≤◌, ◌^◌, List, [], ◌∷◌, ◌++◌, length, refl, sym, ap, ap₂, ◌∙◌, arith, subst, append-nil, append_assoc, length-append, Bool, true, false, inl, inr, None, Some}
use Rattle.std.specs.Prelude.{◌⊎◌, nat_lt}
use Rattle.std.specs.declared.option.Option.{Option}
use Rattle.std.specs.Io.KnownBytes.{Consumes}
use Rattle.tw_lexer.specs.declared.cut.Cut.TheVariants.{Plain}
use Rattle.tw_lexer.proofs.Cuts.{is_done-append}
use Rattle.tw_server.specs.Lines.{ending, IsLine, IsText, IsOpen, HasNoFeed, is_over}
use Rattle.tw_server.specs.Words.{Said, meant, said_of}
use Rattle.tw_server.specs.State.{State}
use Rattle.tw_command.specs.Meaning.{read_declaration}
use Rattle.tw_words.specs.Words.{AreBad}
use Rattle.tw_words.proofs.Uniqueness.{bad_words_say_nothing}
use Rattle.tw_ports.specs.Files.{Held}
use Rattle.tw_server.specs.Machine.{Behind, Takes}
use Rattle.tw_server.specs.Phases.{a_choice, a_command, a_query}
use Rattle.tw_server.specs.Outcome.{Outcome, Ran, AreGoodWords, with_words}
use Rattle.tw_ports.specs.Ports.{count_after}
use Rattle.tw_server.specs.Counts.{StatusCounts}
use Rattle.tw_server.specs.Laws.{FaultlessIsDone, OneReading, ShortIsNotLong}
use Rattle.tw_server.specs.declared.status.Status.{Status}
use Rattle.tw_server.specs.declared.status.Status.TheVariants.{Done, BadWords, ReadFault, WriteFault, NoMemory, InputLong}
use borrow.Author.Tests.{ltb-true, ltb-false}

longer : (taken read ahead : List ℕ) → taken ≡ read ++ ahead → length read ≡ 2 ^ 40 → ahead ≢ [] → 2 ^ 40 < length taken
longer taken read [] e l n = absurd (n refl)
longer taken read (x ∷ xs) e l n = omega (arith, ap length e, length-append read (x ∷ xs))

taken_within : (input : List ℕ) (left : Option (List ℕ)) (taken : List ℕ) → Consumes (Some input) left taken → length taken ≤ length input
taken_within input None taken h = absurd h
taken_within input (Some rest) taken h = omega (arith, ap length h, length-append taken rest)

not_long : (held : Option Held) (words : List (List ℕ)) (left : Option (List ℕ)) (v w : State) (taken gained : List ℕ) → length taken ≤ 2 ^ 40 → Outcome held words left InputLong v taken gained w → ⊥
not_long held words left v w taken gained l o =
    let r : Ran held o.1 left InputLong (with_words o.0 v) taken gained w = o.3 in
    let k = longer taken _ r.ahead r.read r.ends.2 r.ends.1 in omega arith

pub short_is_not_long : ShortIsNotLong
short_is_not_long held words input left' written written' v w status l s e =
    let o = subst (λ (st : Status). Outcome held words left' st v s.taken s.gained w) e s.outcome in
    let k = taken_within input left' s.taken s.consumed in
    not_long held words left' v w s.taken s.gained (omega arith) o

-- a count that is raised has changed, below its last value
raised : (n : ℕ) → n < 2 ^ 64 - 1 → n ≡ count_after true n → ⊥
raised n h e = omega (arith, e)

not_good : (words : List (List ℕ)) → AreBad words → AreGoodWords words → ⊥
not_good words bad good = bad_words_say_nothing words good.0 good.1 bad good.2

done_or_none : (held : Option Held) (words : List (List ℕ)) (left : Option (List ℕ)) (status : Status) (v w : State) (taken gained : List ℕ) (r k : ℕ) → AreGoodWords words → length taken ≤ 2 ^ 40 → r < 2 ^ 64 - 1 → k < 2 ^ 64 - 1 → StatusCounts r r k k status
    → Outcome held words left status v taken gained w → (status ≡ Done) ⊎ (status ≡ NoMemory)
done_or_none held words left Done v w taken gained r k good l p q c o = inl refl
done_or_none held words left BadWords v w taken gained r k good l p q c o = absurd (not_good words o.0 good)
done_or_none held words left ReadFault v w taken gained r k good l p q c o = absurd (raised r p c.0)
done_or_none held words left WriteFault v w taken gained r k good l p q c o = absurd (raised k q c.1)
done_or_none held words left NoMemory v w taken gained r k good l p q c o = inr refl
done_or_none held words left InputLong v w taken gained r k good l p q c o = absurd (not_long held words left v w taken gained l o)

pub faultless_is_done : FaultlessIsDone
faultless_is_done held words input left' written written' v w status r k good l p q c s =
    let t = taken_within input left' s.taken s.consumed in
    done_or_none held words left' status v w s.taken s.gained r k good (omega arith) p q c s.outcome

same_line : (a b x y : List ℕ) → HasNoFeed a → HasNoFeed b → a ++ 10 ∷ x ≡ b ++ 10 ∷ y → (a ≡ b) × (x ≡ y)
same_line [] [] x y p q e = (refl, cc)
same_line [] (c ∷ b) x y p q e = let h : c ≡ 10 = cc in absurd (q.0 h)
same_line (c ∷ a) [] x y p q e = let h : c ≡ 10 = cc in absurd (p.0 h)
same_line (c ∷ a) (d ∷ b) x y p q e =
    let h : c ≡ d = cc in
    let t : a ++ 10 ∷ x ≡ b ++ 10 ∷ y = cc in
    let r = same_line a b x y p.1 q.1 t in
    (let u = r.0 in cc, r.1)

split : (a b : ℕ) → (a < b) ⊎ (b ≤ a)
split a b = go (nat_lt a b) refl
  where
    go : (t : Bool) → nat_lt a b ≡ t → (a < b) ⊎ (b ≤ a)
    go true e = inl (ltb-true a b e)
    go false e = inr (ltb-false a b e)

not_both : {b : Bool} → b ≡ true → b ≡ false → ⊥
not_both p q = cc

-- a front of one list is a front of the other
front_of : (a b x y : List ℕ) → a ++ x ≡ b ++ y → length a ≤ length b → (z : List ℕ) × (b ≡ a ++ z) × (x ≡ z ++ y)
front_of [] b x y e h = (b, refl, e)
front_of (c ∷ a) [] x y e h = absurd (omega arith)
front_of (c ∷ a) (d ∷ b) x y e h =
    let u : a ++ x ≡ b ++ y = cc in
    let k : length a ≤ length b = omega arith in
    let r = front_of a b x y u k in
    let f : d ≡ c = cc in
    (r.0, ap₂ (λ (p : ℕ) (l : List ℕ). p ∷ l) f r.1, r.2)

no_feed_inside : (a z : List ℕ) → HasNoFeed (a ++ 10 ∷ z) → ⊥
no_feed_inside [] z h = h.0 refl
no_feed_inside (x ∷ a) z h = no_feed_inside a z h.1

-- a text that comes to its dot at a line feed goes no further
no_further : (a b x y : List ℕ) → (body : List ℕ) → IsOpen b body → is_over a ≡ true → a ++ 10 ∷ x ≡ b ++ y → length a < length b → ⊥
no_further a b x y body o over e h =
    let f = front_of a b (10 ∷ x) y e (omega arith) in
    go f.0 f.1 f.2
  where
    go : (z : List ℕ) → b ≡ a ++ z → 10 ∷ x ≡ z ++ y → ⊥
    go [] p q = omega (arith, ap length p, length-append a [])
    go (c ∷ z) p q =
        let ten : c ≡ 10 = cc in
        let whole : a ++ 10 ∷ z ≡ o.front ++ body = ap (λ n. a ++ n ∷ z) (sym ten) ∙ sym p ∙ o.spelled in
        elim (split (length a) (length o.front)) [
          | inl k ↦ let g = front_of a o.front (10 ∷ z) body whole (omega arith) in
              not_both (ap is_over g.1 ∙ is_done-append Plain a g.0 over) o.before
          | inr k ↦ let g = front_of o.front a body (10 ∷ z) (sym whole) k in no_feed_inside g.0 z (subst HasNoFeed g.2 o.plain)
        ]

same_text : (a b x y : List ℕ) → IsText true a → IsText true b → a ++ x ≡ b ++ y → a ≡ b
same_text a b x y p q e =
    let whole : p.0 ++ 10 ∷ x ≡ q.0 ++ 10 ∷ y = sym (append_assoc p.0 (10 ∷ []) x) ∙ ap (λ l. l ++ x) (sym p.4) ∙ e ∙ ap (λ l. l ++ y) q.4 ∙ append_assoc q.0 (10 ∷ []) y in
    elim (split (length p.0) (length q.0)) [
      | inl h ↦ absurd (no_further p.0 q.0 x (10 ∷ y) q.1 q.2 p.3 whole h)
      | inr h ↦ elim (split (length q.0) (length p.0)) [
        | inl k ↦ absurd (no_further q.0 p.0 y (10 ∷ x) p.1 p.2 q.3 (sym whole) k)
        | inr k ↦ let g = front_of p.0 q.0 (10 ∷ x) (10 ∷ y) whole (omega arith) in
            let none : g.0 ≡ [] = none_of g.0 (omega (arith, ap length g.1, length-append p.0 g.0)) in
            p.4 ∙ ap (λ l. l ++ 10 ∷ []) (sym (g.1 ∙ ap (λ l. p.0 ++ l) none ∙ append-nil p.0)) ∙ sym q.4
      ]
    ]
  where
    none_of : (xs : List ℕ) → length xs ≡ 0 → xs ≡ []
    none_of [] z = refl
    none_of (c ∷ xs) z = absurd (omega (arith, z))

whole_line : (ended : Bool) (said : Said) (text : List ℕ) → Behind said ended true text → ended ≡ true
whole_line true said text h = refl
whole_line false (meant read_declaration) text h = let e = h.0 in cc
whole_line false said text h = sym h.1

same_rest : (said : Said) (text text' x y : List ℕ) → Behind said true true text → Behind said true true text' → text ++ x ≡ text' ++ y → text ≡ text'
same_rest (meant read_declaration) text text' x y h k e = same_text text text' x y h k e
same_rest said text text' x y h k e = h.0 ∙ sym k.0

-- the bytes of a command: its line's body, a line feed and what is behind
spelled : {took text : List ℕ} {said : Said} (t : Takes true took said text) → (took ≡ t.body ++ 10 ∷ text) × Behind said true true text
spelled {text = text} {said = said} t =
    let e = whole_line t.ended said text t.behind in (
      t.spelled ∙ ap (λ (l : List ℕ). l ++ text) (t.first.spelled ∙ ap (λ b. t.body ++ ending b) e) ∙ append_assoc t.body (10 ∷ []) text,
      subst (λ b. Behind said b true text) e t.behind,
    )

same_command : (took took' more more' text text' : List ℕ) (said said' : Said) → Takes true took said text → Takes true took' said' text' → took ++ more ≡ took' ++ more' → took ≡ took'
same_command took took' more more' text text' said said' s t e =
    let p = spelled s in
    let q = spelled t in
    let whole : s.body ++ 10 ∷ (text ++ more) ≡ t.body ++ 10 ∷ (text' ++ more') =
    sym (append_assoc s.body (10 ∷ text) more) ∙ ap (λ (l : List ℕ). l ++ more) (sym p.0) ∙ e ∙ ap (λ (l : List ℕ). l ++ more') q.0 ∙ append_assoc t.body (10 ∷ text') more' in
    let r = same_line s.body t.body (text ++ more) (text' ++ more') s.first.plain t.first.plain whole in
    let one : said' ≡ said = t.says ∙ ap said_of (sym r.0) ∙ sym s.says in
    let rest = same_rest said text text' more more' p.1 (subst (λ x. Behind x true true text') one q.1) r.1 in
    p.0 ∙ ap₂ (λ (a b : List ℕ). a ++ 10 ∷ b) r.0 rest ∙ sym q.0

-- two lines at the front of one input
same_choice : (took took' more more' body body' : List ℕ) → IsLine true took body → IsLine true took' body' → took ++ more ≡ took' ++ more' → took ≡ took'
same_choice took took' more more' body body' s t e =
    let whole : body ++ 10 ∷ more ≡ body' ++ 10 ∷ more' =
    sym (append_assoc body (10 ∷ []) more) ∙ ap (λ (l : List ℕ). l ++ more) (sym s.spelled) ∙ e ∙ ap (λ (l : List ℕ). l ++ more') t.spelled ∙ append_assoc body' (10 ∷ []) more' in
    let r = same_line body body' more more' s.plain t.plain whole in
    s.spelled ∙ ap (λ (l : List ℕ). l ++ 10 ∷ []) r.0 ∙ sym t.spelled

pub one_reading : OneReading
one_reading held held' a_command next next' v v' w w' took took' more more' reply reply' s t e = same_command took took' more more' s.text t.text s.said t.said s.takes t.takes e
one_reading held held' a_query next next' v v' w w' took took' more more' reply reply' s t e = same_text took took' more more' s.takes t.takes e
one_reading held held' (a_choice waiting) next next' v v' w w' took took' more more' reply reply' s t e = same_choice took took' more more' s.body t.body s.takes t.takes e

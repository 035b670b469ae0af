-- What clap makes of the words is what they say.
use Rattle.std.proofs.Common.{◌≡◌, ◌∙◌, ℕ, Bool, true, false, List, [], ◌∷◌, ◌++◌, None, Some, length, is_some, refl, sym, ap, subst, codes, append_assoc, append-nil}
use Rattle.std.specs.Bool.{⊤}
use Rattle.std.specs.Prelude.{fold, slice_get, unwrap_or}
use Rattle.std.specs.Str.{IsUtf8, bytes_eq, chars}
use Rattle.std.specs.declared.option.Option.{Option}
use Rattle.clap.specs.Lexer.{long_of, short_of}
use Rattle.clap.specs.Kinds.{Kinds, or_else}
use Rattle.clap.specs.Walk.{Row, Walk, all_of, first_of, has_row, settled_rows, used, walked}
use Rattle.clap.specs.Faults.{settle_fault, turn_fault, use_fault, walk_fault}
use Rattle.clap.specs.declared.error.kind.ErrorKind.TheVariants.{ArgumentConflict, InvalidValue, UnknownArgument}
use Rattle.std.proofs.Common.{◌==◌, arith}
use Rattle.std.proofs.lemmas.Bool.Decides.{nat_tests}
use Rattle.std.proofs.lemmas.Str.{IsCharBoundary-after_ascii, IsUtf8-drop, encodes-chars}
use Rattle.std.specs.Str.{encode_utf8_all as encodes}
use Rattle.tw_words.specs.Reading.{Kind, Said, ending, kind_of, plain, reads_on, steps_option, turn, unknown}
use Rattle.tw_words.proofs.Rows.{HasSaid, files-used, files_id, has_row-found, steps-row, steps-used, steps_id}
use Rattle.tw_words.proofs.Walked.{Pending, at, attached-fault, attached-walked, bare-fault, bare-walked, due, ending-fault, ending-walked, fault_of_pending, given, idle, named, other-fault, plain-fault, plain-walked, rows_of_pending, shape, short-fault, steps_arg, trailing-fault, trailing-walked}

-- the outcome of clap's walk from here: what its rows say, where there is no fault
abbrev pub verdict : Kinds → Said → Option Said
verdict [] said = Some said
verdict (k ∷ ks) said = None

abbrev pub said_by : List Row → Said
said_by rows = (first_of steps_id rows, unwrap_or (all_of files_id rows) [])

abbrev pub last : Walk → List (List ℕ) → Walk
last w words = fold (walked shape.rules []) w words

abbrev pub faults : Walk → List (List ℕ) → Kinds
faults w words = or_else (walk_fault shape [] w words) (settle_fault shape.rules false (last w words).held)

abbrev pub outcome : Walk → List (List ℕ) → Option Said
outcome w words = verdict (faults w words) (said_by (settled_rows shape.rules (last w words).held.pending (last w words).held.rows))

-- one step without a fault, and one with one
outcome-step : (w next : Walk) (word : List ℕ) (words : List (List ℕ)) → turn_fault shape [] w word ≡ [] → walked shape.rules [] w word ≡ next → outcome w (word ∷ words) ≡ outcome next words
unfolding walk_fault
outcome-step w next word words fault step = rw fault (ap (λ (n : Walk). outcome n words) step)

outcome-fault : (w : Walk) (word : List ℕ) (words : List (List ℕ)) (k : _) (ks : Kinds) → turn_fault shape [] w word ≡ k ∷ ks → outcome w (word ∷ words) ≡ None
unfolding walk_fault
outcome-fault w word words k ks fault = rw fault refl

-- what was said before the word that is being read, and with it
abbrev Sees : List Row → Pending → Option (List ℕ) → List (List ℕ) → Type 0
Sees rows idle steps files = HasSaid rows steps files
Sees rows due steps files = HasSaid rows steps files
Sees rows (given v) steps files = HasSaid rows None files × (steps ≡ Some v)
Sees rows (named f) steps files = (before : List (List ℕ)) × HasSaid rows steps before × (files ≡ before ++ f ∷ [])

abbrev IsNotDue : Pending → Type 0
IsNotDue due = ⊥
IsNotDue _ = ⊤

no-row : (rows : List Row) (files : List (List ℕ)) → HasSaid rows None files → has_row steps_id rows ≡ false
no-row rows files said = has_row-found steps_id rows ∙ ap (λ o. is_some o) (said.no_steps refl)

settled-rows : (rows : List Row) (p : Pending) (steps : Option (List ℕ)) (files : List (List ℕ)) → IsNotDue p → Sees rows p steps files → HasSaid (rows_of_pending p rows) steps files
settled-rows rows idle steps files free sees = sees
settled-rows rows due steps files free sees = absurd free
settled-rows rows (given v) steps files free sees = subst (λ s. HasSaid (rows_of_pending (given v) rows) s files) (sym sees.1) (steps-used rows files v sees.0)
settled-rows rows (named f) steps files free sees = subst (λ l. HasSaid (rows_of_pending (named f) rows) steps l) (sym sees.2) (files-used rows steps sees.0 f sees.1)

settled-fault : (rows : List Row) (p : Pending) (steps : Option (List ℕ)) (files : List (List ℕ)) → IsNotDue p → Sees rows p steps files → fault_of_pending p rows ≡ []
settled-fault rows idle steps files free sees = refl
settled-fault rows due steps files free sees = absurd free
settled-fault rows (given v) steps files free sees = rw (no-row rows files sees.0) refl
settled-fault rows (named f) steps files free sees = refl

-- behind `--` every word is a file
trailing : (words : List (List ℕ)) (rows : List Row) (p : Pending) (steps : Option (List ℕ)) (files : List (List ℕ)) → IsNotDue p → Sees rows p steps files
    → outcome (at rows p true) words ≡ Some (steps, files ++ words)
unfolding walk_fault
trailing [] rows p steps files free sees =
    let said = settled-rows rows p steps files free sees in
    rw (settled-fault rows p steps files free sees, said.steps_are, said.files_are, append-nil files) refl
trailing (word ∷ words) rows p steps files free sees =
    let said = settled-rows rows p steps files free sees in
    outcome-step (at rows p true) (at (rows_of_pending p rows) (named word) true) word words (trailing-fault rows p word ∙ settled-fault rows p steps files free sees) (trailing-walked rows p word)
    ∙ trailing words (rows_of_pending p rows) (named word) steps (files ++ word ∷ []) tt (files, said, refl)
    ∙ ap (λ l. Some (steps, l)) (append_assoc files (word ∷ []) words)

-- behind `--` a value that is due doesn't come
trailing-due : (words : List (List ℕ)) (rows : List Row) → outcome (at rows due true) words ≡ None
unfolding walk_fault
trailing-due [] rows = refl
trailing-due (word ∷ words) rows = outcome-fault (at rows due true) word words InvalidValue [] (trailing-fault rows due word)

-- where the steps were given before, a second value is refused, whatever follows
twice-fault : (rows : List Row) (v : List ℕ) → has_row steps_id rows ≡ true → fault_of_pending (given v) rows ≡ ArgumentConflict ∷ []
twice-fault rows v has = rw has refl

trailing-twice : (words : List (List ℕ)) (rows : List Row) (v : List ℕ) → has_row steps_id rows ≡ true → outcome (at rows (given v) true) words ≡ None
unfolding walk_fault
trailing-twice [] rows v has = rw has refl
trailing-twice (word ∷ words) rows v has = outcome-fault (at rows (given v) true) word words ArgumentConflict [] (trailing-fault rows (given v) word ∙ twice-fault rows v has)

-- the kinds of words
data Form (word : List ℕ) : Type 0 where
  is_ending : bytes_eq word (codes "--") ≡ true → Form word
  is_bare : (name : List ℕ) → bytes_eq word (codes "--") ≡ false → long_of word ≡ Some (name, None) → bytes_eq (codes "steps") name ≡ true → Form word
  is_attached : (name v : List ℕ) → bytes_eq word (codes "--") ≡ false → long_of word ≡ Some (name, Some v) → bytes_eq (codes "steps") name ≡ true → Form word
  is_other : (name : List ℕ) (value : Option (List ℕ)) → bytes_eq word (codes "--") ≡ false → long_of word ≡ Some (name, value) → bytes_eq (codes "steps") name ≡ false → Form word
  is_short : (letters : List ℕ) → bytes_eq word (codes "--") ≡ false → long_of word ≡ None → short_of word ≡ Some letters → Form word
  is_plain : bytes_eq word (codes "--") ≡ false → long_of word ≡ None → short_of word ≡ None → Form word

form : (word : List ℕ) → Form word
form word = first (bytes_eq word (codes "--")) refl where
  short : bytes_eq word (codes "--") ≡ false → long_of word ≡ None → (o : Option (List ℕ)) → short_of word ≡ o → Form word
  short e l None s = is_plain e l s
  short e l (Some letters) s = is_short letters e l s

  option : bytes_eq word (codes "--") ≡ false → (name : List ℕ) (value : Option (List ℕ)) → long_of word ≡ Some (name, value) → (b : Bool) → bytes_eq (codes "steps") name ≡ b → Form word
  option e name value l false n = is_other name value e l n
  option e name None l true n = is_bare name e l n
  option e name (Some v) l true n = is_attached name v e l n

  long : bytes_eq word (codes "--") ≡ false → (o : Option (List ℕ × Option (List ℕ))) → long_of word ≡ o → Form word
  long e None l = short e l (short_of word) refl
  long e (Some p) l = option e p.0 p.1 l (bytes_eq (codes "steps") p.0) refl

  first : (b : Bool) → bytes_eq word (codes "--") ≡ b → Form word
  first true e = is_ending e
  first false e = long e (long_of word) refl

-- a word of short options is a hyphen and letters
short_shape : (word letters : List ℕ) → short_of word ≡ Some letters → (x : ℕ) × (xs : List ℕ) × (word ≡ 45 ∷ letters) × (letters ≡ x ∷ xs)
short_shape [] letters s =
    let bad : None ≡ Some letters = s in
    cc
short_shape (b ∷ []) letters s = go (b == 45) refl s where
  go : (is : Bool) → (b == 45) ≡ is → short_of (b ∷ []) ≡ Some letters → (x : ℕ) × (xs : List ℕ) × (b ∷ [] ≡ 45 ∷ letters) × (letters ≡ x ∷ xs)
  go true e s =
      let bad : None ≡ Some letters = rw e at s in
      cc
  go false e s =
      let bad : None ≡ Some letters = rw e at s in
      cc
short_shape (b ∷ x ∷ xs) letters s = go (b == 45) (x == 45) refl refl s where
  go : (is second : Bool) → (b == 45) ≡ is → (x == 45) ≡ second → short_of (b ∷ x ∷ xs) ≡ Some letters → (y : ℕ) × (ys : List ℕ) × (b ∷ x ∷ xs ≡ 45 ∷ letters) × (letters ≡ y ∷ ys)
  go false second e n s =
      let bad : None ≡ Some letters = rw e at s in
      cc
  go true true e n s =
      let bad : None ≡ Some letters = rw (e, n) at s in
      cc
  go true false e n s =
      let is : Some (x ∷ xs) ≡ Some letters = rw (e, n) at s in
      let same : x ∷ xs ≡ letters = cc in
      let hyphen : b ≡ 45 = grind (arith, nat_tests) in
      (x, xs, cc, sym same)

first_letter : (letters : List ℕ) (x : ℕ) (xs : List ℕ) → IsUtf8 letters → letters ≡ x ∷ xs → (letter : ℕ) × (slice_get (chars letters) 0 ≡ Some letter)
first_letter letters x xs text is = go (chars letters) refl (encodes-chars letters text) where
  go : (cs : List ℕ) → chars letters ≡ cs → encodes (chars letters) ≡ letters → (letter : ℕ) × (slice_get (chars letters) 0 ≡ Some letter)
  go [] e back =
      let bad : [] ≡ letters = rw e at back in
      cc
  go (c ∷ cs) e back = (c, rw e refl)

letters-fault : (rows : List Row) (p : Pending) (word letters : List ℕ) → IsUtf8 word → bytes_eq word (codes "--") ≡ false → long_of word ≡ None → short_of word ≡ Some letters
    → turn_fault shape [] (at rows p false) word ≡ UnknownArgument ∷ []
letters-fault rows p word letters text e l s = go (short_shape word letters s) where
  go : (x : ℕ) × (xs : List ℕ) × (word ≡ 45 ∷ letters) × (letters ≡ x ∷ xs) → turn_fault shape [] (at rows p false) word ≡ UnknownArgument ∷ []
  go (x, xs, whole, some) =
      let hyphened : IsUtf8 (45 ∷ letters) = subst IsUtf8 whole text in
      let rest : IsUtf8 letters = IsUtf8-drop (45 ∷ letters) 1 hyphened (IsCharBoundary-after_ascii (45 ∷ letters) 0 hyphened (omega arith) (omega arith)) in
      let letter = first_letter letters x xs rest some in
      short-fault rows p word letters (length xs) letter.0 e l s (ap length some) letter.1

-- each word is text
abbrev pub AllText : List (List ℕ) → Type 0
AllText [] = ⊤
AllText (word ∷ words) = IsUtf8 word × AllText words

twice : (words : List (List ℕ)) → AllText words → (rows : List Row) (v : List ℕ) → has_row steps_id rows ≡ true → outcome (at rows (given v) false) words ≡ None
unfolding walk_fault
twice [] texts rows v has = rw has refl
twice (word ∷ words) texts rows v has = go (form word) where
  go : Form word → outcome (at rows (given v) false) (word ∷ words) ≡ None
  go (is_ending e) = outcome-step (at rows (given v) false) (at rows (given v) true) word words (ending-fault rows (given v) word e) (ending-walked rows (given v) word e) ∙ trailing-twice words rows v has
  go (is_bare name e l n) = outcome-fault (at rows (given v) false) word words ArgumentConflict [] (bare-fault rows (given v) word name e l n ∙ ap (λ k. or_else k []) (twice-fault rows v has))
  go (is_attached name u e l n) = outcome-fault (at rows (given v) false) word words ArgumentConflict [] (attached-fault rows (given v) word name u e l n ∙ ap (λ k. or_else (or_else k (use_fault false steps_arg (u ∷ []) (rows_of_pending (given v) rows))) []) (twice-fault rows v has))
  go (is_other name value e l n) = outcome-fault (at rows (given v) false) word words UnknownArgument [] (other-fault rows (given v) word name value e l n)
  go (is_short letters e l s) = outcome-fault (at rows (given v) false) word words UnknownArgument [] (letters-fault rows (given v) word letters texts.0 e l s)
  go (is_plain e l s) = outcome-fault (at rows (given v) false) word words ArgumentConflict [] (plain-fault rows (given v) word e l s ∙ twice-fault rows v has)

abbrev is_due : Pending → Bool
is_due due = true
is_due _ = false

-- what a word is, by its form
kind-ending : (word : List ℕ) → bytes_eq word (codes "--") ≡ true → kind_of word ≡ ending
kind-ending word e = rw e refl

kind-option : (word name : List ℕ) (value : Option (List ℕ)) → bytes_eq word (codes "--") ≡ false → long_of word ≡ Some (name, value) → bytes_eq (codes "steps") name ≡ true → kind_of word ≡ steps_option value
kind-option word name value e l n = rw (e, l, n) refl

kind-other : (word name : List ℕ) (value : Option (List ℕ)) → bytes_eq word (codes "--") ≡ false → long_of word ≡ Some (name, value) → bytes_eq (codes "steps") name ≡ false → kind_of word ≡ unknown
kind-other word name value e l n = rw (e, l, n) refl

kind-short : (word letters : List ℕ) → bytes_eq word (codes "--") ≡ false → long_of word ≡ None → short_of word ≡ Some letters → kind_of word ≡ unknown
kind-short word letters e l s = rw (e, l, s) refl

kind-plain : (word : List ℕ) → bytes_eq word (codes "--") ≡ false → long_of word ≡ None → short_of word ≡ None → kind_of word ≡ plain
kind-plain word e l s = rw (e, l, s) refl

-- what the words say from a place on, by the kind of the next word
says : (word : List ℕ) (k : Kind) (d : Bool) (steps : Option (List ℕ)) (files words : List (List ℕ)) → kind_of word ≡ k
    → turn k d steps files word words (λ d s f. reads_on d s f words) ≡ turn (kind_of word) d steps files word words (λ d s f. reads_on d s f words)
says word k d steps files words e = ap (λ x. turn x d steps files word words (λ d s f. reads_on d s f words)) (sym e)

-- the end of the words, where no value is due
ended : (rows : List Row) (p : Pending) (steps : Option (List ℕ)) (files : List (List ℕ)) → IsNotDue p → Sees rows p steps files
    → outcome (at rows p false) [] ≡ Some (steps, files)
unfolding walk_fault
ended rows p steps files free sees =
    let said = settled-rows rows p steps files free sees in
    rw (settled-fault rows p steps files free sees, said.steps_are, said.files_are) refl

-- no value is due: what the further words say has to be known for each place behind the next word
module _ (word : List ℕ) (words : List (List ℕ)) (text : IsUtf8 word) (texts : AllText words)
    (ih : (rows : List Row) (p : Pending) (steps : Option (List ℕ)) (files : List (List ℕ)) → Sees rows p steps files → outcome (at rows p false) words ≡ reads_on (is_due p) steps files words) where
  due-next : (rows : List Row) (steps : Option (List ℕ)) (files : List (List ℕ)) → HasSaid rows steps files → Form word
      → outcome (at rows due false) (word ∷ words) ≡ reads_on true steps files (word ∷ words)
  due-next rows steps files said (is_ending e) =
      outcome-step (at rows due false) (at rows due true) word words (ending-fault rows due word e) (ending-walked rows due word e) ∙ trailing-due words rows ∙ says word ending true steps files words (kind-ending word e)
  due-next rows steps files said (is_bare name e l n) =
      outcome-fault (at rows due false) word words InvalidValue [] (bare-fault rows due word name e l n) ∙ says word (steps_option None) true steps files words (kind-option word name None e l n)
  due-next rows steps files said (is_attached name v e l n) =
      outcome-fault (at rows due false) word words InvalidValue [] (attached-fault rows due word name v e l n) ∙ says word (steps_option (Some v)) true steps files words (kind-option word name (Some v) e l n)
  due-next rows steps files said (is_other name value e l n) =
      outcome-fault (at rows due false) word words UnknownArgument [] (other-fault rows due word name value e l n) ∙ says word unknown true steps files words (kind-other word name value e l n)
  due-next rows steps files said (is_short letters e l s) =
      outcome-fault (at rows due false) word words UnknownArgument [] (letters-fault rows due word letters text e l s) ∙ says word unknown true steps files words (kind-short word letters e l s)
  due-next rows None files said (is_plain e l s) =
      outcome-step (at rows due false) (at rows (given word) false) word words (plain-fault rows due word e l s) (plain-walked rows due word e l s)
      ∙ ih rows (given word) (Some word) files (said, refl) ∙ says word plain true None files words (kind-plain word e l s)
  due-next rows (Some old) files said (is_plain e l s) =
      outcome-step (at rows due false) (at rows (given word) false) word words (plain-fault rows due word e l s) (plain-walked rows due word e l s)
      ∙ twice words texts rows word (steps-row rows old files said) ∙ says word plain true (Some old) files words (kind-plain word e l s)

  -- a value by `=`
  attached : (rows : List Row) (v : List ℕ) (steps : Option (List ℕ)) (files : List (List ℕ)) → HasSaid rows steps files
      → (w : Walk) → walked shape.rules [] w word ≡ at (used steps_arg (v ∷ []) rows) idle false → turn_fault shape [] w word ≡ or_else (or_else [] (use_fault false steps_arg (v ∷ []) rows)) []
      → outcome w (word ∷ words) ≡ turn (steps_option (Some v)) false steps files word words (λ d s f. reads_on d s f words)
  attached rows v None files said w step fault =
      outcome-step w (at (used steps_arg (v ∷ []) rows) idle false) word words (fault ∙ once) step ∙ ih (used steps_arg (v ∷ []) rows) idle (Some v) files (steps-used rows files v said)
    where
      once : or_else (or_else [] (use_fault false steps_arg (v ∷ []) rows)) [] ≡ []
      once = rw (no-row rows files said) refl
  attached rows v (Some old) files said w step fault = outcome-fault w word words ArgumentConflict [] (fault ∙ again)
    where
      again : or_else (or_else [] (use_fault false steps_arg (v ∷ []) rows)) [] ≡ ArgumentConflict ∷ []
      again = rw (steps-row rows old files said) refl

  free-next : (rows : List Row) (p : Pending) (steps : Option (List ℕ)) (files : List (List ℕ)) → IsNotDue p → Sees rows p steps files → Form word
      → outcome (at rows p false) (word ∷ words) ≡ turn (kind_of word) false steps files word words (λ d s f. reads_on d s f words)
  free-next rows p steps files free sees (is_ending e) =
      outcome-step (at rows p false) (at rows p true) word words (ending-fault rows p word e) (ending-walked rows p word e) ∙ trailing words rows p steps files free sees ∙ says word ending false steps files words (kind-ending word e)
  free-next rows p steps files free sees (is_bare name e l n) =
      outcome-step (at rows p false) (at (rows_of_pending p rows) due false) word words (bare-fault rows p word name e l n ∙ ap (λ k. or_else k []) (settled-fault rows p steps files free sees)) (bare-walked rows p word name e l n)
      ∙ ih (rows_of_pending p rows) due steps files (settled-rows rows p steps files free sees) ∙ says word (steps_option None) false steps files words (kind-option word name None e l n)
  free-next rows p steps files free sees (is_attached name v e l n) =
      attached (rows_of_pending p rows) v steps files (settled-rows rows p steps files free sees) (at rows p false) (attached-walked rows p word name v e l n)
      (attached-fault rows p word name v e l n ∙ ap (λ k. or_else (or_else k (use_fault false steps_arg (v ∷ []) (rows_of_pending p rows))) []) (settled-fault rows p steps files free sees))
      ∙ says word (steps_option (Some v)) false steps files words (kind-option word name (Some v) e l n)
  free-next rows p steps files free sees (is_other name value e l n) =
      outcome-fault (at rows p false) word words UnknownArgument [] (other-fault rows p word name value e l n) ∙ says word unknown false steps files words (kind-other word name value e l n)
  free-next rows p steps files free sees (is_short letters e l s) =
      outcome-fault (at rows p false) word words UnknownArgument [] (letters-fault rows p word letters text e l s) ∙ says word unknown false steps files words (kind-short word letters e l s)
  free-next rows p steps files free sees (is_plain e l s) =
      outcome-step (at rows p false) (at (rows_of_pending p rows) (named word) false) word words (free_fault p free ∙ settled-fault rows p steps files free sees) (free_walked p free)
      ∙ ih (rows_of_pending p rows) (named word) steps (files ++ word ∷ []) (files, settled-rows rows p steps files free sees, refl) ∙ says word plain false steps files words (kind-plain word e l s)
    where
      free_fault : (q : Pending) → IsNotDue q → turn_fault shape [] (at rows q false) word ≡ fault_of_pending q rows
      free_fault idle f = plain-fault rows idle word e l s
      free_fault due f = absurd f
      free_fault (given v) f = plain-fault rows (given v) word e l s
      free_fault (named g) f = plain-fault rows (named g) word e l s

      free_walked : (q : Pending) → IsNotDue q → walked shape.rules [] (at rows q false) word ≡ at (rows_of_pending q rows) (named word) false
      free_walked idle f = plain-walked rows idle word e l s
      free_walked due f = absurd f
      free_walked (given v) f = plain-walked rows (given v) word e l s
      free_walked (named g) f = plain-walked rows (named g) word e l s

-- from each place on, the outcome of clap's walk is what the words say
pub outcome-reads : (words : List (List ℕ)) → AllText words → (rows : List Row) (p : Pending) (steps : Option (List ℕ)) (files : List (List ℕ)) → Sees rows p steps files
    → outcome (at rows p false) words ≡ reads_on (is_due p) steps files words
unfolding walk_fault
outcome-reads [] texts rows idle steps files sees = ended rows idle steps files tt sees
outcome-reads [] texts rows due steps files sees = refl
outcome-reads [] texts rows (given v) steps files sees = ended rows (given v) steps files tt sees
outcome-reads [] texts rows (named f) steps files sees = ended rows (named f) steps files tt sees
outcome-reads (word ∷ words) texts rows idle steps files sees = free-next word words texts.0 texts.1 (outcome-reads words texts.1) rows idle steps files tt sees (form word)
outcome-reads (word ∷ words) texts rows due steps files sees = due-next word words texts.0 texts.1 (outcome-reads words texts.1) rows steps files sees (form word)
outcome-reads (word ∷ words) texts rows (given v) steps files sees = free-next word words texts.0 texts.1 (outcome-reads words texts.1) rows (given v) steps files tt sees (form word)
outcome-reads (word ∷ words) texts rows (named f) steps files sees = free-next word words texts.0 texts.1 (outcome-reads words texts.1) rows (named f) steps files tt sees (form word)

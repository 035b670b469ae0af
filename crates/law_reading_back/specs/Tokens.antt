-- The tokens of a text that is made of pieces.
use Rattle.std.specs.Prelude.{◌≡◌, ℕ, List, [], ◌∷◌, codes, if◌then◌else◌}
use Rattle.std.specs.Str.{bytes_eq}
use Rattle.tw_parse.specs.Words.{Lexeme, fixed_word}
use Rattle.tw_parse.specs.declared.words.Word.{Word}
use Rattle.tw_parse.specs.declared.words.Word.TheVariants.{Keyword, Colon, Dot, LParen, RParen, LBrace, RBrace, LBracket, RBracket}
use Rattle.tw_print.specs.Pieces.{Piece, token, space}

-- what the bytes of a token are in the grammar
abbrev pub token_word : List ℕ → Word
token_word t =
    if bytes_eq t (codes "(") then LParen else
    if bytes_eq t (codes ")") then RParen else
    if bytes_eq t (codes "{") then LBrace else
    if bytes_eq t (codes "}") then RBrace else
    if bytes_eq t (codes "[") then LBracket else
    if bytes_eq t (codes "]") then RBracket else
    if bytes_eq t (codes ":") then Colon else
    if bytes_eq t (codes ".") then Dot else
    if bytes_eq t (codes "%abbrev") then Keyword else
    fixed_word t

-- the lexemes begin with the tokens of the pieces, one for each, wherever they stand, and the others stand behind them
abbrev pub BeginWith : List Piece → List Lexeme → List Lexeme → Type 0
BeginWith [] xs behind = xs ≡ behind
BeginWith (space ∷ ps) xs behind = BeginWith ps xs behind
BeginWith (token t ∷ ps) xs behind = (x : Lexeme) × (rest : List Lexeme) × (xs ≡ x ∷ rest) × (x.word ≡ token_word t) × (x.bytes ≡ t) × BeginWith ps rest behind

-- they are these tokens
abbrev pub AreTokens : List Piece → List Lexeme → Type 0
AreTokens ps xs = BeginWith ps xs []

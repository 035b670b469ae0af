use Rattle.std.proofs.Common.{◌≡◌, ◌≤◌, ℕ, ◌+◌, ◌-◌, ◌<◌, length, List, ◌++◌, take, length-append, ap, ◌∙◌, arith}
use Rattle.std.proofs.lemmas.List.{length-take-le}
use Rattle.std.specs.Io.KnownBytes.{Consumes}
use Rattle.std.proofs.KnownBytes.{Consumes-trans}
use Rattle.std.specs.declared.option.Option.{Option}
use Rattle.tw_ports.specs.Disk.{ReadsOpen}
use Rattle.tw_ports.specs.declared.files.FileAnswer.TheVariants.{TooLong, NoMemory}
use Rattle.tw_ports.proofs.disk.read_within.Goals as goal

-- the length of what was taken with one more read
taken_length : (bytes piece : List ℕ) (count : ℕ) → count ≤ length piece → length (bytes ++ take count piece) ≡ length bytes + count
taken_length bytes piece count fits = length-append bytes (take count piece) ∙ ap (λ n. length bytes + n) (length-take-le count piece fits)

too_long : (old mid new : Option (List ℕ)) (bytes piece : List ℕ) (count limit : ℕ) → Consumes old mid bytes → Consumes mid new (take count piece)
    → count ≤ length piece → length bytes ≤ limit → count ≤ limit - length bytes + 1 → limit - length bytes < count → ReadsOpen old new limit TooLong
too_long old mid new bytes piece count limit before now fits within few more =
    let taken = taken_length bytes piece count fits in
    record { taken = bytes ++ take count piece; consumed = Consumes-trans old mid new bytes (take count piece) before now; few = omega arith; says = omega arith }

no_memory : (old mid new : Option (List ℕ)) (bytes piece : List ℕ) (count limit : ℕ) → Consumes old mid bytes → Consumes mid new (take count piece)
    → count ≤ length piece → length bytes ≤ limit → count ≤ limit - length bytes → ReadsOpen old new limit NoMemory
no_memory old mid new bytes piece count limit before now fits within few =
    let taken = taken_length bytes piece count fits in
    record { taken = bytes ++ take count piece; consumed = Consumes-trans old mid new bytes (take count piece) before now; few = omega arith; says = tt }

pub returns-in-Ok-clause-reads : goal.returns-in-Ok-clause-reads
returns-in-Ok-clause-reads g c =
    too_long _ (g.R.Read.remaining c.pieces.reader) _ c.pieces.bytes.items c.read_piece.new.piece c.in-Ok.count c.args.limit c.pieces.invariant.1 c.in-Ok.ensures.bytes.0 c.in-Ok.ensures.bound.0 c.pieces.invariant.0 (omega (arith, c.in-Ok.ensures.bound)) (omega arith)

pub returns-then-is_err-clause-reads : goal.returns-then-is_err-clause-reads
returns-then-is_err-clause-reads g c =
    no_memory _ (g.R.Read.remaining c.pieces.reader) _ c.pieces.bytes.items c.read_piece.new.piece c.in-Ok-2.count c.args.limit c.pieces.invariant.1 c.in-Ok-2.ensures.bytes.0 c.in-Ok-2.ensures.bound.0 c.pieces.invariant.0 (omega arith)

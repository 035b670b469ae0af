-- What a call on a store of files answers, and what it does to its count of faults.
use Rattle.std.specs.Prelude.{◌≡◌, ℕ, ◌<◌, ◌≤◌, List, [], ◌∷◌, length, ⊤, None, Some, true, false, if◌then◌else◌, IsSomeAnd}
use Rattle.std.specs.Str.{bytes_eq}
use Rattle.std.specs.declared.option.Option.{Option}
use Rattle.tw_ports.specs.Ports.{count_after}
use Rattle.tw_ports.specs.declared.files.FileAnswer.{FileAnswer}
use Rattle.tw_ports.specs.declared.files.FileAnswer.TheVariants.{Found, Absent, TooLong, Failed, NoMemory}

-- names with the bytes held under them; of two entries with one name the first counts
abbrev pub Held : Type 0
Held = List (List ℕ × List ℕ)

-- the bytes that are held under a name
abbrev pub held_under : List ℕ → Held → Option (List ℕ)
held_under name [] = None
held_under name (file ∷ files) = if bytes_eq file.0 name then Some file.1 else held_under name files

-- where a store tells its files before a call, it tells the same after it
abbrev pub HoldsOn : Option Held → Option Held → Type 0
HoldsOn None new = ⊤
HoldsOn (Some old) new = new ≡ Some old

-- what the answer says of the files, where they are told
abbrev pub Tells : Option Held → List ℕ → ℕ → FileAnswer → Type 0
Tells None name limit answer = ⊤
Tells (Some files) name limit (Found bytes) = held_under name files ≡ Some bytes.items
Tells (Some files) name limit Absent = held_under name files ≡ None
Tells (Some files) name limit TooLong = IsSomeAnd (held_under name files) (λ bytes. limit < length bytes)
Tells (Some files) name limit Failed = ⊤
Tells (Some files) name limit NoMemory = ⊤

-- no more bytes are found than the limit allows
abbrev pub Within : ℕ → FileAnswer → Type 0
Within limit (Found bytes) = length bytes.items ≤ limit
Within limit Absent = ⊤
Within limit TooLong = ⊤
Within limit Failed = ⊤
Within limit NoMemory = ⊤

-- a store's count of faults rises by one with the answer Failed, and with no other
abbrev pub FileCounts : ℕ → ℕ → FileAnswer → Type 0
FileCounts before now (Found bytes) = now ≡ count_after false before
FileCounts before now Absent = now ≡ count_after false before
FileCounts before now TooLong = now ≡ count_after false before
FileCounts before now Failed = now ≡ count_after true before
FileCounts before now NoMemory = now ≡ count_after false before

-- exactly what a store of these files answers where the call doesn't fail: the bytes where they are no more than the
-- limit, or want of memory for them
abbrev pub LooksUp : Held → List ℕ → ℕ → FileAnswer → Type 0
LooksUp files name limit (Found bytes) = (held_under name files ≡ Some bytes.items) × (length bytes.items ≤ limit)
LooksUp files name limit Absent = held_under name files ≡ None
LooksUp files name limit TooLong = IsSomeAnd (held_under name files) (λ bytes. limit < length bytes)
LooksUp files name limit Failed = ⊥
LooksUp files name limit NoMemory = IsSomeAnd (held_under name files) (λ bytes. length bytes ≤ limit)

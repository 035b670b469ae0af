use Rattle.std.proofs.Common.{◌≡◌, map, string_bytes, drop}
use Rattle.tw_ports.specs.Files.{held_under}
use Rattle.tw_ports.proofs.files.bytes_under.Given as goal

-- the name is not among the files so far
abbrev pub invariant-loop-file : goal.invariant-loop-file
invariant-loop-file l = held_under l.name (map (λ f. (string_bytes f.0, f.1.items)) (drop l.file-index l.files)) ≡ held_under l.name (map (λ f. (string_bytes f.0, f.1.items)) l.files)

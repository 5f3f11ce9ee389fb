-- what was appended is the front of the key, as it is printed
use Rattle.std.proofs.Common.{◌≡◌, ◌++◌, string_bytes}
use Rattle.std.specs.Str.{encode_utf8_all}
use Rattle.policy_walk.specs.Path.{printed_key}
use Rattle.policy_walk.proofs.paths.put_key.Given as goal

abbrev pub invariant-loop-letter : goal.invariant-loop-letter
invariant-loop-letter l = string_bytes l.out ≡ string_bytes l.fn.out ++ printed_key (encode_utf8_all l.yielded)

-- the names of the accounts so far are in the set, each once
use Rattle.std.proofs.Common.{◌≡◌, map, take}
use Rattle.std.specs.List.{IsDistinct}
use Rattle.std.specs.Str.{bytes_eq}
use Rattle.policy_doc.specs.Document.{user_name, users_of}
use Rattle.policy_doc.proofs.unique.are_unique.Given as goal

abbrev pub invariant-loop-named : goal.invariant-loop-named
invariant-loop-named l = record {
  names : l.names.keys ≡ map user_name (users_of (take l.named-index l.accounts));
  distinct : IsDistinct bytes_eq l.names.keys;
}

-- the names so far are in the set, each once
use Rattle.std.proofs.Common.{◌≡◌, ◌++◌, map, take}
use Rattle.std.specs.List.{IsDistinct}
use Rattle.std.specs.Str.{bytes_eq}
use Rattle.policy_doc.specs.Document.{user_name}
use Rattle.policy_doc.proofs.unique.are_new.Given as goal

abbrev pub invariant-loop-user : goal.invariant-loop-user
invariant-loop-user l = record {
  names : l.names.keys ≡ l.initial.names.keys ++ map user_name (take l.user-index l.users);
  distinct : IsDistinct bytes_eq l.names.keys;
}

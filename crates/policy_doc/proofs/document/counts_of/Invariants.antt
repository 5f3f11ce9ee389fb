-- the users and rows of the accounts so far are counted, and each account has fewer than 2^64
use Rattle.std.proofs.Common.{◌≡◌, ◌*◌, ◌≤◌, length, take}
use Rattle.policy_doc.specs.Document.{users_of, exports_of, imports_of, mappings_of}
use Rattle.policy_doc.proofs.document.counts_of.Given as goal

abbrev pub invariant-loop-named : goal.invariant-loop-named
invariant-loop-named l = record {
  users : l.users ≡ length (users_of (take l.named-index l.accounts));
  exports : l.exports ≡ length (exports_of (take l.named-index l.accounts));
  imports : l.imports ≡ length (imports_of (take l.named-index l.accounts));
  mappings : l.mappings ≡ length (mappings_of (take l.named-index l.accounts));
  user_bound : l.users ≤ l.named-index * 18446744073709551615;
  export_bound : l.exports ≤ l.named-index * 18446744073709551615;
  import_bound : l.imports ≤ l.named-index * 18446744073709551615;
  mapping_bound : l.mappings ≤ l.named-index * 18446744073709551615;
}

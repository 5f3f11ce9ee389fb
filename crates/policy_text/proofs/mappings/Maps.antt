-- Reading the members of an object of sources one after the other, as a loop does.
use Rattle.std.proofs.Common.{◌≡◌, ℕ, List, [], ◌∷◌, ◌++◌, Ok, sym, ◌∙◌}
use Rattle.serde_json.specs.Data.{Data, Members, member}
use Rattle.account_mappings.specs.Drawing.{SourceMap}
use Rattle.policy_walk.specs.Fault.{Read}
use Rattle.policy_walk.specs.Path.{Path, at_key}
use Rattle.policy_walk.proofs.Lists.{regroup, with_front}
use Rattle.policy_text.specs.mappings.Mappings.{map_at, maps_from}

-- one source more is read
pub goes_on : (path : Path) (front : List SourceMap) (key : List ℕ) (d : Data) (ms : Members) (m : SourceMap) (total : Read (List SourceMap)) →
    map_at (at_key path key) key d ≡ Ok m → with_front front (maps_from path (member key d ms)) ≡ total → with_front (front ++ m ∷ []) (maps_from path ms) ≡ total
goes_on path front key d ms m total read so_far =
    let one : with_front front (maps_from path (member key d ms)) ≡ with_front (front ++ m ∷ []) (maps_from path ms) = rw read (regroup front m (maps_from path ms)) in
    sym one ∙ so_far

-- what is read nests no deeper than a text may
use Rattle.std.proofs.Common.{◌≡◌, Bool, true, false, Option, Some, None}
use Rattle.std.specs.Prelude.{if◌then◌else◌}
use Rattle.std.specs.Str.{is_utf8}
use Rattle.serde_json.specs.Data.{Data}
use Rattle.serde_json.specs.Read.{read}
use Rattle.serde_json.specs.View.{view}
use Rattle.serde_json.proofs.Nesting.{depth-read}
use Rattle.policy_sets.proofs.parts.parts.cut.Goals as goal

is_read : (utf8 : Bool) (value : Option Data) (d : Data) → (if utf8 then value else None) ≡ Some d → value ≡ Some d
is_read true value d e = e
is_read false value d e = absurd (cc)

pub each_part-requires : goal.each_part-requires
each_part-requires c = depth-read c.args.text.now (view c.in-Ok.value) (is_read (is_utf8 c.args.text.now) (read c.args.text.now) (view c.in-Ok.value) c.in-Ok.ensures.value)

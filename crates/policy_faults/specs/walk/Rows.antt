-- The faults of exports and imports (docs/POLICY.md, "Exports and imports").
use Rattle.std.specs.Prelude.{◌&&◌, Bool, List, codes, if◌then◌else◌, Option, Some, None, is_some}
use Rattle.serde_json.specs.Data.{Data}
use Rattle.serde_json.specs.Find.{as_object}
use Rattle.policy_doc.specs.declared.exports.document.Kind.{Kind}
use Rattle.policy_doc.specs.declared.exports.document.Kind.TheVariants.{Stream, Service}
use Rattle.policy_walk.specs.declared.fault.ConfigFault.TheVariants.{WrongType}
use Rattle.policy_walk.specs.Object.{Row}
use Rattle.policy_walk.specs.Path.{Path}
use Rattle.policy_text.specs.rows.Names.{kind_of}
use Rattle.policy_text.specs.rows.Exports as exports
use Rattle.policy_text.specs.rows.Imports as imports
use Rattle.policy_faults.specs.declared.finding.Finding.{Finding}
use Rattle.policy_faults.specs.declared.finding.Wanted.TheVariants as wanted
use Rattle.policy_faults.specs.declared.walk.texts.TextKind.TheVariants.{AccountName, Pattern, Subject, Any, Duration, ResponseType}
use Rattle.policy_faults.specs.Findings.{with_fault}
use Rattle.policy_faults.specs.walk.Walk.{Finds, with_list, with_object, with_under}
use Rattle.policy_faults.specs.walk.Texts.{with_text}

-- a row of no kind is at fault itself, if it is an object
abbrev pub with_kindless : List Row → Finds
with_kindless rows path d front =
    if is_some (as_object d) then with_fault (WrongType path) wanted.Kind (with_object rows wanted.Object path d front)
    else with_object rows wanted.Object path d front

abbrev pub with_row : Finds → Finds → List Row → Path → Data → Option Kind → List Finding → List Finding
with_row stream service rows path d (Some Stream) front = stream path d front
with_row stream service rows path d (Some Service) front = service path d front
with_row stream service rows path d None front = with_kindless rows path d front

-- ---- exports

abbrev pub with_names : Finds
with_names = with_list (with_text AccountName) wanted.List

abbrev pub with_stream_export : Finds
with_stream_export path d front =
    with_under with_names (codes "accounts") path d
    (with_under (with_text Pattern) (codes "stream") path d (with_object exports.stream_rows wanted.Object path d front))

abbrev pub with_service_export : Finds
with_service_export path d front =
    with_under (with_text Duration) (codes "response_ttl") path d
    (with_under (with_text ResponseType) (codes "response_type") path d
    (with_under with_names (codes "accounts") path d
    (with_under (with_text Pattern) (codes "service") path d (with_object exports.service_rows wanted.Object path d front))))

abbrev pub with_export : Finds
with_export path d front = with_row with_stream_export with_service_export exports.either_rows path d (kind_of d) front

-- ---- imports

abbrev pub with_source : Finds
with_source path d front =
    with_under (with_text Pattern) (codes "subject") path d
    (with_under (with_text AccountName) (codes "account") path d (with_object imports.source_rows wanted.Object path d front))

abbrev pub with_stream_import : Finds
with_stream_import path d front =
    with_under (with_text Subject) (codes "prefix") path d
    (with_under (with_text Any) (codes "to") path d
    (with_under with_source (codes "stream") path d (with_object imports.stream_rows wanted.Object path d front)))

abbrev pub with_service_import : Finds
with_service_import path d front =
    with_under (with_text Any) (codes "to") path d
    (with_under with_source (codes "service") path d (with_object imports.service_rows wanted.Object path d front))

abbrev pub with_import : Finds
with_import path d front = with_row with_stream_import with_service_import imports.either_rows path d (kind_of d) front

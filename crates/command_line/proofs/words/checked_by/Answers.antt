-- a folder for the parts is named
use Rattle.std.proofs.Common.{◌≡◌, ◌∙◌, List, Option, Some, None, ap, refl, string_bytes, sym}
use Rattle.std.specs.Prelude.{option_map}
use Rattle.clap.specs.Words.{Row, Text, found_of, rows_of}
use Rattle.command_line.specs.Files.{checked_file}
use Rattle.command_line.specs.Words.{IsCheckIf, IsFile}
use Rattle.command_line.specs.declared.options.SplitOptions.{SplitOptions}
use Rattle.command_line.specs.declared.words.Invocation.{Invocation}
use Rattle.command_line.specs.declared.words.Invocation.TheVariants as invocation
use Rattle.command_line.proofs.words.checked_by.Goals as goal

same : (x y : Text) → Some x ≡ Some y → x ≡ y
same x y e = cc

by_folder : (rows : List Row) (asked : Option Text) (options : SplitOptions) (a : Invocation) → Some (string_bytes options.folder) ≡ asked → IsFile (checked_file rows) options.policy → a ≡ invocation.Split options →
    IsCheckIf rows asked a
by_folder rows None options a e policy is = absurd (cc)
by_folder rows (Some folder) options a e policy is = (options, is, same _ _ e, policy)

pub returns-in-Some : goal.returns-in-Some
returns-in-Some c =
    by_folder (rows_of (found_of c.args.options.now)) _ (record { folder = c.in-Some.folder; policy = c.in_ok-policy.policy }) _
    (sym (ap (option_map string_bytes) c.in-Some.is) ∙ c.in_ok-text_in.ensures) c.in_ok-policy.ensures refl

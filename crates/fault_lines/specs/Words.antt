-- What is wanted in the place of a fault, in words (docs/POLICY.md, "Every fault").
use Rattle.std.specs.Prelude.{ℕ, List, codes}
use Rattle.policy_faults.specs.declared.finding.Wanted.{Wanted}
use Rattle.policy_faults.specs.declared.finding.Wanted.TheVariants.{KnownKey, Key, Object, List as AList, Version, AccountName, UserName, Password, Direction, Spelling, Entries, PublishEntry, SubscribeEntry, Responses, Max, Duration, Kind, Pattern, Subject, Text, ResponseType, Destinations, Template, Weight, Sum}

abbrev pub words_of : Wanted → List ℕ
words_of KnownKey = codes "a known key"
words_of Key = codes "a value"
words_of Object = codes "an object"
words_of AList = codes "a list"
words_of Version = codes "1 or 2"
words_of AccountName = codes "1 to 256 bytes, none a control byte, space or DEL"
words_of UserName = codes "1 to 256 bytes"
words_of Password = codes "a password in clear"
words_of Direction = codes "entries, or an object with allow and deny"
words_of Spelling = codes "one spelling of the direction"
words_of Entries = codes "an entry, or a list of entries"
words_of PublishEntry = codes "a pattern"
words_of SubscribeEntry = codes "a pattern, or a pattern and one for queues"
words_of Responses = codes "true, false or an object"
words_of Max = codes "a whole number from 1 to 2147483647, or -1"
words_of Duration = codes "a duration such as \"2m\""
words_of Kind = codes "one of stream and service"
words_of Pattern = codes "a pattern"
words_of Subject = codes "a subject without wildcards"
words_of Text = codes "a text"
words_of ResponseType = codes "\"single\" or \"stream\""
words_of Destinations = codes "a template, an object, or a list of objects"
words_of Template = codes "a template for the subjects of its source"
words_of Weight = codes "a weight from 1 to 100, or such as \"10%\""
words_of Sum = codes "weights of 100 at most"

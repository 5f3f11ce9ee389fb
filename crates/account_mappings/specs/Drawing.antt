-- The mappings of an account, and the subject under which a message is sent on (docs/GUARANTEE.md, "Mappings").
use Rattle.std.specs.Prelude.{⊤, ◌≡◌, ◌≤◌, ◌+◌, ◌/◌, ◌%◌, ◌^◌, ℕ, Bool, false, List, [], ◌∷◌, length, map, Option, Some, None, Result, Ok, Err, if◌then◌else◌, codes, find, nat_lt, position, slice_get, All}
use Rattle.std.specs.List.{list_any, sum_by}
use Rattle.std.specs.Str.{bytes_eq}
use Rattle.base.specs.declared.no_memory.NoMemory.{NoMemory}
use Rattle.subjects.specs.Subject.{Token, in_set, text_of, tokens_of}
use Rattle.mapping.specs.Pairs.{RowMap, forward}
use Rattle.mapping.specs.Fault.{templated}
use Rattle.mapping.specs.declared.templates.error.MappingError.{MappingError}
use Rattle.mapping.specs.declared.templates.error.MappingError.TheVariants as fault
use Rattle.mapping.specs.one_way.Fault.{one_way_fault}
use Rattle.account_mappings.specs.declared.drawing.Mapped.{Mapped}
use Rattle.account_mappings.specs.declared.drawing.Mapped.TheVariants.{Same, To, Unmapped, TooLong}

-- Where the subjects of a source are sent on: a template's text, and how many of a hundred messages go there.
pub record Share : Type 0 where
  pub source : List Token
  pub text : List ℕ
  pub weight : ℕ

abbrev pub share_of : List Token → List ℕ → ℕ → Share
share_of source text weight = record { source = source; text = text; weight = weight }

-- a source with its destinations, in the order in which they are written
pub record SourceMap : Type 0 where
  pub source : List Token
  pub shares : List Share

abbrev pub map_of : List Token → List Share → SourceMap
map_of source shares = record { source = source; shares = shares }

-- what every destination keeps: its template holds for the subjects of its source
pub record IsShare (way : RowMap) (text : List ℕ) : Type 0 where
  pub made : way ≡ templated way.outer (tokens_of text)
  pub fits : one_way_fault way.outer text ≡ None

abbrev pub weight_of : Share → ℕ
weight_of share = share.weight

abbrev pub weights_of : List Share → List ℕ
weights_of shares = map weight_of shares

-- destinations are of their source
abbrev pub AreOwn : List Token → List Share → Type 0
AreOwn source shares = All (λ share. share.source ≡ source) shares

-- what every source keeps: its destinations are its own, and their weights add up to a hundred at most
pub record IsSourceMap (m : SourceMap) : Type 0 where
  pub own : AreOwn m.source m.shares
  pub most : sum_by weight_of m.shares ≤ 100

-- that destination, or lack of memory for it, where its template has no fault; else the fault
abbrev pub IsMadeOr : Option MappingError → Share → Result Share MappingError → Type 0
IsMadeOr None share (Ok made) = made ≡ share
IsMadeOr None share (Err e) = e ≡ fault.NoMemory
IsMadeOr (Some first) share (Ok made) = ⊥
IsMadeOr (Some first) share (Err e) = e ≡ first

abbrev pub IsDestination : Share → Result Share MappingError → Type 0
IsDestination share made = IsMadeOr (one_way_fault share.source share.text) share made

-- a source with destinations, if their weights add up to a hundred at most
abbrev pub map_if : SourceMap → Option SourceMap
map_if m = if nat_lt 100 (sum_by weight_of m.shares) then None else Some m

-- ---- the drawing

-- one of a hundred draws, by the upper half of a message's word
abbrev pub draw_of : ℕ → ℕ
draw_of word = word / 2 ^ 32 % 100

-- each weight with those before it
abbrev pub totals : ℕ → List ℕ → List ℕ
totals before [] = []
totals before (w ∷ ws) = (before + w) ∷ totals (before + w) ws

-- the first at which the weights so far add up to more than the draw
abbrev pub chosen : ℕ → List ℕ → Option ℕ
chosen draw weights = position (nat_lt draw) (totals 0 weights)

-- what a destination's template makes of a subject, if that isn't too long
abbrev pub reached_by : ℕ → Option (List Token) → Mapped
reached_by index None = Same
reached_by index (Some subject) = if nat_lt 512 (length subject) then TooLong index else To subject

abbrev pub reached : ℕ → Option Share → List Token → Mapped
reached index None subject = Same
reached index (Some share) subject = reached_by index (forward (templated share.source (tokens_of share.text)) subject)

-- the rest is dropped where some destination's text is the source's
abbrev pub is_dropped : SourceMap → Bool
is_dropped m = list_any (λ share. bytes_eq share.text (text_of m.source)) m.shares

abbrev pub rest_of : SourceMap → Mapped
rest_of m = if is_dropped m then Unmapped else Same

abbrev pub drawn_by : SourceMap → List Token → Option ℕ → Mapped
drawn_by m subject None = rest_of m
drawn_by m subject (Some index) = reached index (slice_get m.shares index) subject

-- where a subject of the source is sent on
abbrev pub drawn : SourceMap → List Token → ℕ → Mapped
drawn m subject word = drawn_by m subject (chosen (draw_of word) (weights_of m.shares))

-- a subject that begins with the token `_R_` belongs to the responses of services
abbrev pub is_route : List Token → Bool
is_route [] = false
is_route (t ∷ ts) = bytes_eq t (codes "_R_")

-- the first source that has the subject decides
abbrev pub source_of : List SourceMap → List Token → Option SourceMap
source_of maps subject = if is_route subject then None else find (λ m. in_set m.source subject) maps

abbrev pub mapped_from : Option SourceMap → List Token → ℕ → Mapped
mapped_from None subject word = Same
mapped_from (Some m) subject word = drawn m subject word

abbrev pub mapped_by : List SourceMap → List Token → ℕ → Mapped
mapped_by maps subject word = mapped_from (source_of maps subject) subject word

-- this answer, for which memory is wanted only by a subject
abbrev pub IsDrawn : Mapped → Result Mapped NoMemory → Type 0
IsDrawn (To subject) (Ok found) = found ≡ To subject
IsDrawn (To subject) (Err _) = ⊤
IsDrawn Same answer = answer ≡ Ok Same
IsDrawn Unmapped answer = answer ≡ Ok Unmapped
IsDrawn (TooLong index) answer = answer ≡ Ok (TooLong index)

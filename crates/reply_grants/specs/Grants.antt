-- The grants to respond on reply subjects, from the oldest to the youngest, and what changes them
-- (docs/GUARANTEE.md, "Reply grants: the table").
use Rattle.std.specs.Prelude.{◌+◌, ◌-◌, ◌^◌, ◌++◌, ◌∷◌, [], ℕ, Bool, true, false, not, ◌&&◌, cond, List, Option, Some, None, length, map, filter, drop, min, nat_lt, nat_le, if◌then◌else◌}
use Rattle.std.specs.List.{list_any}
use Rattle.subjects.specs.Subject.{Token}
use Rattle.subjects.specs.Equal.{same_subject}
use Rattle.policy_doc.specs.declared.permission_doc.document.Terms.{Terms}

-- a subject to respond on, the moment when it was noted, and how many responses have passed on it since
pub record Grant : Type 0 where
  pub subject : List Token
  pub noted : ℕ
  pub count : ℕ

-- without a bound every count is below it
abbrev pub is_below : Option ℕ → ℕ → Bool
is_below None count = true
is_below (Some bound) count = nat_lt count bound

-- without a limit every age is within it
abbrev pub is_within : Option ℕ → ℕ → Bool
is_within None age = true
is_within (Some limit) age = nat_le age limit

abbrev pub allow : Terms → ℕ → ℕ → Bool
allow terms count age = is_below terms.max count && is_within terms.expires age

-- a grant is live where there are terms, its count is below their bound and its age is within their limit. An age is 0
-- where the moment asked is before the noted one
abbrev pub is_live : ℕ → Option Terms → Grant → Bool
is_live now None grant = false
is_live now (Some terms) grant = allow terms grant.count (now - grant.noted)

abbrev pub is_for : List Token → Grant → Bool
is_for subject grant = same_subject subject grant.subject

-- some live grant has the subject
abbrev pub has_live : List Token → ℕ → Option Terms → List Grant → Bool
has_live subject now terms grants = list_any (λ (grant : Grant). is_for subject grant && is_live now terms grant) grants

-- at most 1,024 stand: the oldest are dropped
abbrev pub youngest : List Grant → List Grant
youngest grants = drop (length grants - 1024) grants

abbrev pub without : List Token → List Grant → List Grant
without subject grants = filter (λ (grant : Grant). not (is_for subject grant)) grants

-- the subject's grant becomes the youngest, with no responses
abbrev pub after_note : List Token → ℕ → List Grant → List Grant
after_note subject now grants = youngest (without subject grants ++ record { subject = subject; noted = now; count = 0 } ∷ [])

-- one response more, as far as a count goes
abbrev pub answered : Grant → Grant
answered grant = record grant { count = min (grant.count + 1) (2 ^ 64 - 1) }

-- the subject's grant goes where as many responses have passed on it as may, however old it is: at the moment 0 each age is 0
abbrev pub after_end : List Token → Option Terms → List Grant → List Grant
after_end subject terms grants = if has_live subject 0 terms grants then grants else without subject grants

abbrev pub after_response : List Token → List Grant → List Grant
after_response subject grants = map (λ (grant : Grant). cond (is_for subject grant) (answered grant) grant) grants

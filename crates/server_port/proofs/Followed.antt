-- Answers that are followed one after the other.
use Rattle.std.proofs.Common.{◌≡◌, ◌∙◌, ◌++◌, ◌∷◌, ◌<◌, ◌+◌, [], ℕ, List, take, length, get_or, ap, refl, sym}
use Rattle.std.proofs.lemmas.List.{take_more}
use Rattle.events.specs.declared.answer.Entry.{Entry}
use Rattle.worker_port.specs.declared.course.Course.{Course}
use Rattle.server_port.specs.Courses.{all_followed, followed}

one_more : (entries : List Entry) (entry : Entry) (c : Course) → all_followed (entries ++ entry ∷ []) c ≡ followed entry (all_followed entries c)
unfolding all_followed
one_more [] entry c = refl
one_more (x ∷ entries) entry c = one_more entries entry (followed x c)

pub followed_more : (entries : List Entry) (i : ℕ) (entry : Entry) (c d : Course) → i < length entries → entry ≡ get_or entries i entry
    → d ≡ all_followed (take i entries) c → followed entry d ≡ all_followed (take (i + 1) entries) c
followed_more entries i entry c d within is so =
    ap (followed entry) so ∙ sym (one_more (take i entries) entry c)
    ∙ ap (λ (x : Entry). all_followed (take i entries ++ x ∷ []) c) is
    ∙ ap (λ (l : List Entry). all_followed l c) (sym (take_more entries i entry within))

pub none_followed : (entries : List Entry) (c : Course) → c ≡ all_followed (take 0 entries) c
unfolding all_followed
none_followed entries c = refl

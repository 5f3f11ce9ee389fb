-- Why the latest message is held back, behind a run.
use Rattle.std.proofs.Common.{◌≡◌, [], ◌∷◌, ℕ, List, Option, Some, true, ap, refl, subst, sym}
use Rattle.events.specs.declared.answer.Entry.{Entry}
use Rattle.events.specs.declared.refusal.PublishRefusal.{PublishRefusal}
use Rattle.events.specs.declared.refusal.PublishRefusal.TheVariants.{By, Held}
use Rattle.events.specs.declared.run.RunEnd.{RunEnd}
use Rattle.events.specs.declared.run.RunEnd.TheVariants as run
use Rattle.server_port.specs.Courses.{all_followed, followed, refused, why_of}
use Rattle.server_port.specs.Ends.{goes_on}
use Rattle.server_port.specs.Holds.{IsWhy}
use Rattle.worker_port.specs.declared.course.Course.{Course}
use Rattle.worker_port.specs.declared.course.Why.{Why}

pub all_followed_why : (entries : List Entry) (c : Course) → (all_followed entries c).why ≡ c.why
unfolding all_followed
all_followed_why [] c = refl
all_followed_why (entry ∷ entries) c = all_followed_why entries (followed entry c)

pub stopped_why : (end : RunEnd) (word : ℕ) (refusal : PublishRefusal) (slow until : Option ℕ) (c d : Course) → end ≡ run.Stopped word refusal → d ≡ refused refusal slow until c → IsWhy end c.why d.why
stopped_why end word (By refusal) slow until c d is so = subst (λ e. IsWhy e c.why d.why) (sym is) (ap (λ (x : Course). x.why) so)
stopped_why end word Held slow until c d is so = subst (λ e. IsWhy e c.why d.why) (sym is) (why_of slow until, ap (λ (x : Course). x.why) so)

pub held_why : (end : RunEnd) (word : ℕ) (cause : Why) (before after : Option Why) → end ≡ run.Stopped word Held → after ≡ Some cause → IsWhy end before after
held_why end word cause before after is so = subst (λ e. IsWhy e before after) (sym is) (cause, so)

pub goes_why : (end : RunEnd) (before after : Option Why) → goes_on end ≡ true → IsWhy end before after → after ≡ before
goes_why run.Published before after goes why = why
goes_why (run.Answered entry) before after goes why = why
goes_why (run.Stopped word refusal) before after goes why = absurd (cc)

-- What the success of a request tells: of an atomic, that it acted once, and which number was put into its list; of a SEND
-- or a WRITE, that each of its packets was accepted. Laws cite it.
use Rattle.std.specs.Prelude.{◌≡◌, ℕ, suc, ◌≤◌, true, List, [], ◌∷◌, ◌++◌}
use Rattle.ca_base.specs.declared.correspondent.Correspondent.{Correspondent}
use Rattle.ca_connection.specs.Layout.{Direction, first, is_atomic, is_data}
use Rattle.ca_connection.specs.Link.{Link}
use Rattle.ca_keys.specs.Memory.{little_endian_bytes}
use Rattle.ca_keys.specs.declared.verdict.Verdict.TheVariants as verdicts
use Rattle.ca_model.specs.Past.{is_send_success}
use Rattle.ca_model.specs.declared.mark.Mark.{Mark}
use Rattle.ca_model.specs.declared.mark.Mark.TheVariants as marks
use Rattle.ca_model.specs.machine.World.{World}
use Rattle.ca_law_once.specs.Links.{found_at}
use Rattle.ca_law_once.specs.Agrees.{IsInLife}

-- the bytes that a mark tells of as written into a list
abbrev pub put_by : Mark → List ℕ
put_by (marks.Local queue domain key kind address length (verdicts.Wrote bytes)) = bytes
put_by m = []

-- the bytes that marks tell of so, in order
abbrev pub bytes_put : List Mark → List ℕ
bytes_put [] = []
bytes_put (m ∷ ms) = put_by m ++ bytes_put ms

-- An atomic was accepted once, by a link, and the number that it found is what these marks put into lists, as eight
-- bytes.
pub record IsFoundAndPut (d : Direction) (l : Link) (place : ℕ) (ms : List Mark) : Type 0 where
  pub found : ℕ
  pub alone : found_at place l.acceptances ≡ found ∷ []
  pub put : bytes_put ms ≡ little_endian_bytes found

-- What the success of a request tells: of an atomic, that it was accepted once and what it found was put into lists; of a
-- SEND or a WRITE, that all its numbers lie below the expected one: so each of its packets was accepted.
pub record IsSuccess (d : Direction) (l : Link) (place : ℕ) (ms : List Mark) : Type 0 where
  pub atomic : is_atomic (d.work place) ≡ true → IsFoundAndPut d l place ms
  pub passed : is_data (d.work place) ≡ true → first d (suc place) ≤ l.responder.expected

-- where a mark tells that a request of the life that sends completed with success, it was so, by all marks of the event
abbrev pub SuccessIsFound : Direction → Correspondent → World → Link → List Mark → Mark → Type 0
SuccessIsFound d s w l all (marks.Done queue x cause) =
    is_send_success x ≡ true → IsInLife w s x.queue → IsSuccess d l x.place all
SuccessIsFound d s w l all m = Unit {0}

-- each of these marks does so
abbrev pub AreFound : Direction → Correspondent → World → Link → List Mark → List Mark → Type 0
AreFound d s w l all [] = Unit {0}
AreFound d s w l all (m ∷ ms) = SuccessIsFound d s w l all m × AreFound d s w l all ms

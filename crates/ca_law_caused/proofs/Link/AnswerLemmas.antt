-- An answer of a link that stands at a request fits it, where its bytes do. For proofs only.
use Rattle.std.proofs.Common.{◌≡◌, ℕ, ◌⊎◌, inl, inr, zero, suc, ◌+◌, ◌-◌, ◌*◌, ◌<◌, ◌≤◌, ◌==◌, ◌&&◌, ◌↔◌, min, nat_le, Bool, true, false, if◌then◌else◌, List, [], ◌∷◌, length, take, Option, None, Some, is_some, slice_get, sum_by, refl, ap, ap₂, sym, ◌∙◌, arith, true≢false}
use Rattle.std.proofs.lemmas.Bool.{eqb-true}
use Rattle.std.proofs.lemmas.Bool.Decides.{nat_tests}
use Rattle.std.proofs.lemmas.List.Sums.{sum_by-cons}
use Rattle.std.proofs.lemmas.Option.{same_Some}
use Rattle.std.specs.Option.{option_and_then, option_map, option_map_or}
use Rattle.ca_base.specs.Equal.{operation_eq}
use Rattle.ca_base.specs.declared.completion.WcOp.TheVariants as operations
use Rattle.ca_base.specs.declared.request.SendOp.{SendOp}
use Rattle.ca_base.specs.declared.request.SendOp.TheVariants as ops
use Rattle.ca_law_caused.proofs.Link.FitLemmas.{FitsRead}
use Rattle.ca_law_caused.proofs.Link.SightLemmas.{atomic-no-read}
use Rattle.ca_connection.proofs.LayoutLemmas.{segments-one, segments-some, segments-step, span-is_read, span-read}
use Rattle.ca_connection.proofs.NumberLemmas.{cases-lt}
use Rattle.ca_connection.specs.Layout.{Direction, HasNumber, bytes_left, bytes_of, first, is_atomic as is_atomic_work, is_read, psns, start}
use Rattle.ca_connection.specs.Link.{Response, number_of}
use Rattle.ca_connection.specs.Link.Response.{Ack, Nak, Data, Found}
use Rattle.ca_connection.specs.Once.{Fits}
use Rattle.ca_keys.specs.Equal.{bool_eq}
use Rattle.ca_model.specs.Packets.{answers_read, is_last_read_response}
use Rattle.ca_model.specs.Past.{Posted, is_atomic}
use Rattle.ca_model.specs.Progress.{Response as Told, Answers, response_in, response_of_syndrome}
use Rattle.ca_model.specs.Requests.{list_length, list_of, operation_of, psns_of, segment_bytes}
use Rattle.ca_law_once.specs.Connections.{work_posted}
use Rattle.ca_wire.specs.Packet.{Fields}
use Rattle.ca_wire.specs.declared.opcode.TheConstants.{ACKNOWLEDGE, ATOMIC_ACKNOWLEDGE}
use Rattle.ca_law_once.proofs.Rows.LayLemmas.{psns-of-work}
use Rattle.ca_law_once.specs.Entries.{Says}
use Rattle.ca_law_once.specs.Sides.{work_of}
use Rattle.ca_wire.specs.Syndrome.{syndrome_in}
use Rattle.ca_wire.specs.declared.syndrome.NakCode.TheVariants as codes
use Rattle.ca_wire.specs.declared.syndrome.Syndrome.{Syndrome}
use Rattle.ca_wire.specs.declared.syndrome.Syndrome.TheVariants as syndromes

-- ---- what an answer says

-- the response is an answer
abbrev pub is_answer : Told → Bool
is_answer Answers = true
is_answer response = false

no-answer : (s : Syndrome) → is_answer (response_of_syndrome s) ≡ false
no-answer (syndromes.Ack credits) = refl
no-answer (syndromes.RnrNak timer) = refl
no-answer (syndromes.Nak codes.PsnSequenceError) = refl
no-answer (syndromes.Nak codes.InvalidRequest) = refl
no-answer (syndromes.Nak codes.RemoteAccessError) = refl
no-answer (syndromes.Nak codes.RemoteOperationalError) = refl

-- a packet with a syndrome is none
acknowledges-no : (p : Fields) (r : Told) → p.opcode ≡ ACKNOWLEDGE → response_in p ≡ Some r → is_answer r ≡ true → ⊥
acknowledges-no p r acknowledges says answers = by (option_and_then (λ a. syndrome_in a.syndrome) p.aeth)
    (sym (ap (λ n. if n == ACKNOWLEDGE then option_map response_of_syndrome (option_and_then (λ a. syndrome_in a.syndrome) p.aeth) else Some Answers) acknowledges) ∙ says)
  where
    by : (o : Option Syndrome) → option_map response_of_syndrome o ≡ Some r → ⊥
    by None is = true≢false (sym (ap is_some is))
    by (Some s) is = true≢false (sym answers ∙ ap is_answer (sym (same_Some (response_of_syndrome s) r is)) ∙ no-answer s)

-- ---- what it stands for

-- a packet of an answer that fits a request, at this index of it
abbrev pub fits_at : ℕ → SendOp → Fields → ℕ → Bool
fits_at mtu op p index =
    if p.opcode == ATOMIC_ACKNOWLEDGE then is_atomic (operation_of op)
    else operation_eq (operation_of op) operations.Read && (length p.payload == segment_bytes mtu (list_length (list_of op)) index)
    && bool_eq (is_last_read_response p.opcode) (suc index == psns_of mtu op)

atomic-op : (op : SendOp) → is_atomic_work (work_of op) ≡ true → is_atomic (operation_of op) ≡ true
atomic-op (ops.Send list) is = absurd (true≢false (sym is))
atomic-op (ops.SendImm imm list) is = absurd (true≢false (sym is))
atomic-op (ops.SendInv key list) is = absurd (true≢false (sym is))
atomic-op (ops.Write address key list) is = absurd (true≢false (sym is))
atomic-op (ops.WriteImm address key imm list) is = absurd (true≢false (sym is))
atomic-op (ops.Read address key list) is = absurd (true≢false (sym is))
atomic-op (ops.CmpSwap address key compare swap list) is = refl
atomic-op (ops.FetchAdd address key add list) is = refl
atomic-op (ops.Bind1 window region address length rights) is = absurd (true≢false (sym is))
atomic-op (ops.Bind2 window region low address length rights) is = absurd (true≢false (sym is))
atomic-op (ops.FastReg region low buffer address length rights pages) is = absurd (true≢false (sym is))
atomic-op (ops.LocalInv key) is = absurd (true≢false (sym is))

-- a READ, as its direction has it
record ReadOp (op : SendOp) : Type 0 where
  is : operation_eq (operation_of op) operations.Read ≡ true
  bytes : bytes_of (work_of op) ≡ list_length (list_of op)

read-op : (op : SendOp) → is_read (work_of op) ≡ true → ReadOp op
read-op (ops.Send list) is = absurd (true≢false (sym is))
read-op (ops.SendImm imm list) is = absurd (true≢false (sym is))
read-op (ops.SendInv key list) is = absurd (true≢false (sym is))
read-op (ops.Write address key list) is = absurd (true≢false (sym is))
read-op (ops.WriteImm address key imm list) is = absurd (true≢false (sym is))
read-op (ops.Read address key list) is = record { is = refl; bytes = refl }
read-op (ops.CmpSwap address key compare swap list) is = absurd (true≢false (sym is))
read-op (ops.FetchAdd address key add list) is = absurd (true≢false (sym is))
read-op (ops.Bind1 window region address length rights) is = absurd (true≢false (sym is))
read-op (ops.Bind2 window region low address length rights) is = absurd (true≢false (sym is))
read-op (ops.FastReg region low buffer address length rights pages) is = absurd (true≢false (sym is))
read-op (ops.LocalInv key) is = absurd (true≢false (sym is))

-- a READ's number is its last exactly where what is left fits one payload
is-last : (d : Direction) (place n : ℕ) → 0 < d.mtu → is_read (d.work place) ≡ true → HasNumber d place n → (bytes_left d place n ≤ d.mtu) ↔ (n + 1 ≡ first d (suc place))
is-last d place n some kind names = (λ few. short few, λ end. ended end)
  where
    short : bytes_left d place n ≤ d.mtu → n + 1 ≡ first d (suc place)
    short few = omega (arith, segments-one d.mtu (bytes_left d place n) some few, span-is_read d place n kind, span-read d place n some kind names)

    ended : n + 1 ≡ first d (suc place) → bytes_left d place n ≤ d.mtu
    ended end = go (cases-lt d.mtu (bytes_left d place n))
      where
        go : (d.mtu < bytes_left d place n) ⊎ (bytes_left d place n ≤ d.mtu) → bytes_left d place n ≤ d.mtu
        go (inl more) = absurd (omega (arith, segments-step d.mtu (bytes_left d place n) some more, segments-some d.mtu (bytes_left d place n - d.mtu), span-is_read d place n kind, span-read d place n some kind names))
        go (inr few) = few

both-of : (a b : Bool) → (a ≡ true → b ≡ true) → (b ≡ true → a ≡ true) → a ≡ b
both-of true true to from = refl
both-of true false to from = sym (to refl)
both-of false true to from = from refl
both-of false false to from = refl

bool-same : (a b : Bool) → a ≡ b → bool_eq a b ≡ true
bool-same true b is = ap (bool_eq true) (sym is)
bool-same false b is = ap (bool_eq false) (sym is)

few-is : (a b : ℕ) → a ≤ b → nat_le a b ≡ true
few-is a b few = grind (arith, nat_tests)

few-of : (a b : ℕ) → nat_le a b ≡ true → a ≤ b
few-of a b few = grind (arith, nat_tests)

same-is : (a b : ℕ) → a ≡ b → (a == b) ≡ true
same-is a b is = grind (arith, nat_tests)

-- what stands for an answer of a link, at a number of a request
pub record Stands (d : Direction) (mtu place index : ℕ) (op : SendOp) (p : Fields) (a : Response) : Type 0 where
  pub says : Says a p
  pub fits : Fits d place a
  pub work : d.work place ≡ work_of op
  pub mtu_is : mtu ≡ d.mtu
  pub some : 0 < d.mtu
  pub number : HasNumber d place (number_of a)
  pub index_is : index ≡ number_of a - first d place
  pub read : answers_read p.opcode ≡ true → FitsRead d place (number_of a) p

pub answer-fits : (d : Direction) (mtu place index : ℕ) (op : SendOp) (p : Fields) (a : Response) (r : Told) → Stands d mtu place index op p a → response_in p ≡ Some r → is_answer r ≡ true → fits_at mtu op p index ≡ true
answer-fits d mtu place index op p (Ack n) r s says answers = absurd (acknowledges-no p r s.says says answers)
answer-fits d mtu place index op p (Nak code n) r s says answers = absurd (acknowledges-no p r s.says.0 says answers)
answer-fits d mtu place index op p (Found n found) r s says answers =
    ap (λ k. if k == ATOMIC_ACKNOWLEDGE then is_atomic (operation_of op) else (operation_eq (operation_of op) operations.Read && (length p.payload == segment_bytes mtu (list_length (list_of op)) index)
    && bool_eq (is_last_read_response p.opcode) (suc index == psns_of mtu op))) s.says.0 ∙ atomic-op op (ap is_atomic_work (sym s.work) ∙ s.fits)
answer-fits d mtu place index op p (Data n left) r s says answers = by (p.opcode == ATOMIC_ACKNOWLEDGE) refl
  where
    reads : is_read (work_of op) ≡ true
    reads = ap is_read (sym s.work) ∙ s.fits.0

    read : ReadOp op
    read = read-op op reads

    fit : FitsRead d place n p
    fit = s.read s.says

    bytes : bytes_of (d.work place) ≡ list_length (list_of op)
    bytes = ap bytes_of s.work ∙ read.bytes

    segment : length p.payload ≡ segment_bytes mtu (list_length (list_of op)) index
    segment = fit.count ∙ ap (λ k. min d.mtu (k - (n - first d place) * d.mtu)) bytes ∙ ap (λ k. min d.mtu (list_length (list_of op) - k * d.mtu)) (sym s.index_is)
        ∙ ap (λ k. min k (list_length (list_of op) - index * k)) (sym s.mtu_is)

    end : first d (suc place) ≡ first d place + psns_of mtu op
    end = ap (λ k. first d place + k) (ap (psns d.mtu) s.work ∙ ap (λ k. psns k (work_of op)) (sym s.mtu_is) ∙ sym (psns-of-work mtu op))

    last : (bytes_left d place n ≤ d.mtu) ↔ (n + 1 ≡ first d (suc place))
    last = is-last d place n s.some s.fits.0 s.number

    ends : is_last_read_response p.opcode ≡ (suc index == psns_of mtu op)
    ends = fit.last ∙ both-of (nat_le (bytes_left d place n) d.mtu) (suc index == psns_of mtu op)
        (λ few. same-is (suc index) (psns_of mtu op) (omega (arith, last.0 (few-of (bytes_left d place n) d.mtu few), s.index_is, end, s.number.from)))
        (λ is. few-is (bytes_left d place n) d.mtu (last.1 (omega (arith, eqb-true (suc index) (psns_of mtu op) is, s.index_is, end, s.number.from))))

    by : (b : Bool) → (p.opcode == ATOMIC_ACKNOWLEDGE) ≡ b → fits_at mtu op p index ≡ true
    by true is = absurd (true≢false (sym s.says ∙ ap answers_read (eqb-true p.opcode ATOMIC_ACKNOWLEDGE is) ∙ atomic-no-read))
    by false is = ap (λ b. if b then is_atomic (operation_of op) else (operation_eq (operation_of op) operations.Read && (length p.payload == segment_bytes mtu (list_length (list_of op)) index)
        && bool_eq (is_last_read_response p.opcode) (suc index == psns_of mtu op))) is
        ∙ ap₂ (λ a b. a && b && bool_eq (is_last_read_response p.opcode) (suc index == psns_of mtu op)) read.is (same-is (length p.payload) (segment_bytes mtu (list_length (list_of op)) index) segment)
        ∙ bool-same (is_last_read_response p.opcode) (suc index == psns_of mtu op) ends

-- ---- the first number of a request

take-more : (f : Posted → ℕ) (ps : List Posted) (k : ℕ) → sum_by f (take (suc k) ps) ≡ sum_by f (take k ps) + option_map_or f (slice_get ps k) 0
take-more f [] zero = refl
take-more f [] (suc k) = refl
take-more f (p ∷ ps) zero = omega (arith, sum_by-cons f p [])
take-more f (p ∷ ps) (suc k) = omega (arith, take-more f ps k, sum_by-cons f p (take (suc k) ps), sum_by-cons f p (take k ps))

psns-posted : (mtu : ℕ) (o : Option Posted) → psns mtu (work_posted o) ≡ option_map_or (λ (p : Posted). psns_of mtu p.request.op) o 0
psns-posted mtu None = refl
psns-posted mtu (Some p) = sym (psns-of-work mtu p.request.op)

-- it lies behind the numbers of those that were posted before
pub first-posted : (d : Direction) (ps : List Posted) → ((k : ℕ) → d.work k ≡ work_posted (slice_get ps k)) → (place : ℕ) → first d place ≡ start d + sum_by (λ (p : Posted). psns_of d.mtu p.request.op) (take place ps)
first-posted d ps work zero = omega arith
first-posted d ps work (suc place) = omega (
  arith,
  first-posted d ps work place,
  take-more (λ (p : Posted). psns_of d.mtu p.request.op) ps place,
  ap (psns d.mtu) (work place) ∙ psns-posted d.mtu (slice_get ps place),
)

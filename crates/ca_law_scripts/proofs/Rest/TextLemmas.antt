-- What a script's text gives: a configuration within the limits, and lines whose verbs can be made. For proofs only.
use Rattle.std.proofs.Common.{◌≡◌, ℕ, zero, suc, ◌+◌, ◌==◌, ◌&&◌, ◌≤◌, Bool, true, false, not, nat_le, nat_lt, if◌then◌else◌, List, [], ◌∷◌, ◌++◌, ◌-◌, drop, length, replicate, Result, Ok, Err, refl, ap, subst, sym, arith}
use Rattle.std.proofs.lemmas.Bool.{leb-true}
use Rattle.std.proofs.lemmas.Bool.Decides.{nat_tests}
use Rattle.std.proofs.lemmas.List.{length-append, length-replicate}
use Rattle.std.specs.List.{AllByRecursion, list_all}
use Rattle.std.specs.Str.{bytes_eq}
use Rattle.ca_base.specs.Configuration.{Adapter}
use Rattle.ca_base.specs.declared.limits.TheConstants.{MAX_ADAPTERS, MAX_BUFFER_BYTES, MAX_CONSUMERS, MAX_CQS, MAX_DOMAINS, MAX_EVENTS, MAX_PIECES, MAX_QPS, MAX_REGIONS, MAX_SCRIPT_BYTES, MAX_SRQS, MAX_WINDOWS}
use Rattle.ca_base.specs.declared.request.SendOp.{SendOp}
use Rattle.ca_keys.specs.Spelling.{dash}
use Rattle.ca_model.specs.Requests.{list_of}
use Rattle.ca_model.specs.machine.Sound.{AreLimited, IsLimitedAdapter}
use Rattle.ca_trace_lex.specs.Words.{pieces}
use Rattle.ca_law_scripts.specs.Rest.{AreCallable, IsCallable}
use Rattle.ca_script.specs.Script.{Draft, ScriptValue, after_line, after_lines, after_setup_line, after_words, finished, is_comment, is_text, refused_at, script_of, size_of, whole, with_line, within_limits}
use Rattle.ca_script.specs.Setup.{Setup, adapters_row, after_setting, buffer_row, events_row, has_buffer_left, has_room_for, hasten_row, hold_row, is_late, is_setup_word, is_within_limits, lose_row, opening, plain_adapter, repeat_row, seed_row, setup_lines, slots_row, weather_lines, with_adapter, with_buffer, with_slots}
use Rattle.ca_script.specs.declared.setting.Setting.{Setting}
use Rattle.ca_script.specs.declared.setting.Setting.TheVariants as settings
use Rattle.ca_script.specs.declared.setting.SlotCounts.{SlotCounts}
use Rattle.ca_script_lines.specs.Grammar.{consumer_lines, object_lines, change_lines, work_lines, operations, local_operations, pd_row, unpd_row, reg_row, mr_row, dereg_row, mw_row, unmw_row, cq_row, uncq_row, srq_row, unsrq_row, qp_row, unqp_row, query_row, init_row, sqd_row, resume_row, error_row, reset_row, rtr_row, rts_row, post_row, recv_row, srecv_row, poll_row, wait_row, store_row, load_row, inject_row, at_row, send_row, send_imm_row, send_inv_row, write_row, write_imm_row, read_row, cmp_swap_row, fetch_add_row, bind1_row, bind2_row, fast_reg_row, local_inv_row}
use Rattle.ca_script_lines.specs.Rows as rows
use Rattle.ca_script_lines.specs.Rows.{Goes, Makes, Row, Takes, Words, read_named, read_table}
use Rattle.ca_script_lines.specs.declared.what.Line.{Line}
use Rattle.ca_script_lex.specs.Kinds.{Hex, Kind, Number, OfBuffer, OfDomain, OfFlags, OfPages, OfPieces, OfQueue, OfRights, OfSlot, Optional, ValueOf, word_of}
use Rattle.ca_script_lex.specs.Reading.{◌>>=◌, each, field}
use Rattle.ca_script_lex.specs.Words.{is_consumer, is_number, is_piece, limited, number, piece, piece_list, value_of, words_of}
use Rattle.ca_script_lex.specs.declared.cause.ScriptCause.{ScriptCause}
use Rattle.ca_script_lex.specs.declared.cause.ScriptCause.TheVariants as causes

-- ---- what a reader gives

-- what holds of a value, if there is one
abbrev pub Gives : {Y E : Type 0} → (Y → Type 0) → Result Y E → Type 0
Gives P (Ok x) = P x
Gives P (Err cause) = Unit {0}

pub gives-any : {Y : Type 0} (r : Result Y ScriptCause) → Gives (λ x. Unit {0}) r
gives-any (Ok x) = record {}
gives-any (Err cause) = record {}

pub gives-then : {A B : Type 0} (P : A → Type 0) (Q : B → Type 0) (r : Result A ScriptCause) (f : A → Result B ScriptCause) → Gives P r → ((x : A) → P x → Gives Q (f x)) → Gives Q (r >>= f)
gives-then P Q (Ok x) f gives next = next x gives
gives-then P Q (Err cause) f gives next = record {}

pub gives-if : {Y E : Type 0} (P : Y → Type 0) (b : Bool) (r s : Result Y E) → Gives P r → Gives P s → Gives P (if b then r else s)
gives-if P true r s one other = one
gives-if P false r s one other = other

field-gives : {Y : Type 0} (P : Y → Type 0) (reader : List ℕ → Result Y ScriptCause) → ((w : List ℕ) → Gives P (reader w)) → (ws : Words) → Gives (λ (x : Y × Words). P x.0) (field reader ws)
field-gives P reader gives [] = record {}
field-gives {Y} P reader gives (w ∷ ws) = by (reader w) (gives w)
  where
    by : (r : Result Y ScriptCause) → Gives P r → Gives (λ (x : Y × Words). P x.0) (r >>= λ x. Ok (x, ws))
    by (Ok x) is = is
    by (Err cause) is = record {}

-- ---- words

number-gives : (low high : ℕ) (w : List ℕ) → Gives (λ n. (low ≤ n) × (n ≤ high)) (number low high w)
unfolding number limited
number-gives low high w = by (is_number w) (nat_le low (value_of w)) (nat_le (value_of w) high) refl refl
  where
    by : (is above below : Bool) → nat_le low (value_of w) ≡ above → nat_le (value_of w) high ≡ below
        → Gives (λ n. (low ≤ n) × (n ≤ high)) (if is then if above && below then Ok (value_of w) else Err causes.OutOfLimit else Err causes.BadNumber)
    by true true true least most = (leb-true low (value_of w) least, leb-true (value_of w) high most)
    by true true false least most = record {}
    by true false below least most = record {}
    by false above below least most = record {}

each-gives : {Y : Type 0} (reader : List ℕ → Result Y ScriptCause) (ws : Words) → Gives (λ xs. length xs ≡ length ws) (each reader ws)
each-gives reader [] = refl
each-gives {Y} reader (w ∷ ws) = by (reader w) (each reader ws) (each-gives reader ws)
  where
    by : (r : Result Y ScriptCause) (rs : Result (List Y) ScriptCause) → Gives (λ xs. length xs ≡ length ws) rs
        → Gives (λ xs. length xs ≡ suc (length ws)) (r >>= λ x. rs >>= λ xs. Ok (x ∷ xs))
    by (Ok x) (Ok xs) is = ap suc is
    by (Ok x) (Err cause) is = record {}
    by (Err cause) rs is = record {}

each-few : {Y : Type 0} (reader : List ℕ → Result Y ScriptCause) (ws : Words) (k : ℕ) → length ws ≤ k → Gives (λ xs. length xs ≤ k) (each reader ws)
each-few {Y} reader ws k few = by (each reader ws) (each-gives reader ws)
  where
    by : (rs : Result (List Y) ScriptCause) → Gives (λ xs. length xs ≡ length ws) rs → Gives (λ xs. length xs ≤ k) rs
    by (Ok xs) is = omega (arith, few, is)
    by (Err cause) is = record {}

pieces-gives : (w : List ℕ) → Gives (λ list. length list ≤ MAX_PIECES) (piece_list w)
unfolding piece_list
pieces-gives w = by (bytes_eq w dash) (not (list_all is_piece (pieces 44 w))) (nat_lt MAX_PIECES (length (pieces 44 w))) refl
  where
    by : (none bad many : Bool) → nat_lt MAX_PIECES (length (pieces 44 w)) ≡ many
        → Gives (λ list. length list ≤ MAX_PIECES) (if none then Ok [] else if bad then Err causes.BadNumber else if many then Err causes.OutOfLimit else each piece (pieces 44 w))
    by true bad many is = omega arith
    by false true many is = record {}
    by false false true is = record {}
    by false false false is = each-few piece (pieces 44 w) MAX_PIECES (grind (arith, nat_tests, is))

-- ---- rows and tables

-- what holds of the value of a word
abbrev IsRead : (kind : Kind) → ValueOf kind → Type 0
IsRead (Number low high) n = (low ≤ n) × (n ≤ high)
IsRead (Optional high) x = Unit {0}
IsRead OfDomain x = Unit {0}
IsRead OfSlot x = Unit {0}
IsRead (OfQueue last) x = Unit {0}
IsRead OfBuffer x = Unit {0}
IsRead Hex x = Unit {0}
IsRead OfFlags x = Unit {0}
IsRead OfRights x = Unit {0}
IsRead OfPieces list = length list ≤ MAX_PIECES
IsRead OfPages x = Unit {0}

word-gives : (kind : Kind) (w : List ℕ) → Gives (IsRead kind) (word_of kind w)
word-gives (Number low high) w = number-gives low high w
word-gives (Optional high) w = gives-any (word_of (Optional high) w)
word-gives OfDomain w = gives-any (word_of OfDomain w)
word-gives OfSlot w = gives-any (word_of OfSlot w)
word-gives (OfQueue last) w = gives-any (word_of (OfQueue last) w)
word-gives OfBuffer w = gives-any (word_of OfBuffer w)
word-gives Hex w = gives-any (word_of Hex w)
word-gives OfFlags w = gives-any (word_of OfFlags w)
word-gives OfRights w = gives-any (word_of OfRights w)
word-gives OfPieces w = pieces-gives w
word-gives OfPages w = gives-any (word_of OfPages w)

-- what a reader of words at the front gives, whatever the words
abbrev Reads : {Y : Type 0} → (Y → Type 0) → (Words → Result (Y × Words) ScriptCause) → Type 0
Reads {Y} P reader = (ws : Words) → Gives (λ (x : Y × Words). P x.0) (reader ws)

-- what a row makes, of words that are read
abbrev RowGives : {Y : Type 0} → (Y → Type 0) → Row Y → Type 0
RowGives P (Takes kind next) = (x : ValueOf kind) → IsRead kind x → RowGives P (next x)
RowGives P (Goes reader) = Reads P reader
RowGives P (Makes y) = P y

abbrev TableGives : {Y : Type 0} → (Y → Type 0) → List (List ℕ × Row Y) → Type 0
TableGives P table = AllByRecursion (λ row. RowGives P row.1) table

row-gives : {Y : Type 0} (P : Y → Type 0) (row : Row Y) → RowGives P row → Reads P (rows.read_row row)
row-gives {Y} P (Takes kind next) gives ws = gives-then (λ (x : ValueOf kind × Words). IsRead kind x.0) (λ (x : Y × Words). P x.0) (field (word_of kind) ws) (λ x. rows.read_row (next x.0) x.1)
    (field-gives (IsRead kind) (word_of kind) (word-gives kind) ws) (λ x is. row-gives P (next x.0) (gives x.0 is) x.1)
row-gives P (Goes reader) gives ws = gives ws
row-gives P (Makes y) gives ws = gives

named-gives : {Y : Type 0} (P : Y → Type 0) (table : List (List ℕ × Row Y)) → TableGives P table → (name : List ℕ) → Reads P (read_named table name)
named-gives P [] all name ws = record {}
named-gives {Y} P (row ∷ rest) all name ws = gives-if (λ (x : Y × Words). P x.0) (bytes_eq name row.0) (rows.read_row row.1 ws) (read_named rest name ws) (row-gives P row.1 all.0 ws) (named-gives P rest all.1 name ws)

table-gives : {Y : Type 0} (P : Y → Type 0) (table : List (List ℕ × Row Y)) → TableGives P table → Reads P (read_table table)
table-gives P table all [] = record {}
table-gives P table all (w ∷ ws) = named-gives P table all w ws

one-of-gives : {Z Y : Type 0} (P : Z → Type 0) (Q : Y → Type 0) (reader : Words → Result (Z × Words) ScriptCause) (make : Z → Y) → Reads P reader → ((z : Z) → P z → Q (make z))
    → Reads Q (λ ws. reader ws >>= λ z. Ok (make z.0, z.1))
one-of-gives {Z} {Y} P Q reader make reads also ws = gives-then (λ (z : Z × Words). P z.0) (λ (y : Y × Words). Q y.0) (reader ws) (λ z. Ok (make z.0, z.1)) (reads ws) (λ z is. also z.0 is)

whole-gives : {Y : Type 0} (P : Y → Type 0) (r : Result (Y × Words) ScriptCause) → Gives (λ (x : Y × Words). P x.0) r → Gives P (whole r)
whole-gives {Y} P r gives = gives-then (λ (x : Y × Words). P x.0) P r _ gives (λ x is. gives-if P (length x.1 == 0) (Ok x.0) (Err causes.Extra) is (record {}))

-- ---- lines of consumers

abbrev HasFewPiecesOf : SendOp → Type 0
HasFewPiecesOf op = length (list_of op) ≤ MAX_PIECES

zero-few : 0 ≤ MAX_PIECES
zero-few = omega arith

operations-give : TableGives HasFewPiecesOf operations
unfolding operations local_operations send_row send_imm_row send_inv_row write_row write_imm_row read_row cmp_swap_row fetch_add_row bind1_row bind2_row fast_reg_row local_inv_row
operations-give = (
  λ list few. few,
  (
    λ x0 is0 list few. few,
    (
      λ x0 is0 list few. few,
      (
        λ x0 is0 x1 is1 list few. few,
        (
          λ x0 is0 x1 is1 x2 is2 list few. few,
          (
            λ x0 is0 x1 is1 list few. few,
            (
              λ x0 is0 x1 is1 x2 is2 x3 is3 list few. few,
              (
                λ x0 is0 x1 is1 x2 is2 list few. few,
                (
                  λ x0 is0 x1 is1 x2 is2 x3 is3 x4 is4. zero-few,
                  (
                    λ x0 is0 x1 is1 x2 is2 x3 is3 x4 is4 x5 is5. zero-few,
                    (
                      λ x0 is0 x1 is1 x2 is2 x3 is3 x4 is4 x5 is5 x6 is6. zero-few,
                      (
                        λ x0 is0. zero-few,
                        record {},
                      ),
                    ),
                  ),
                ),
              ),
            ),
          ),
        ),
      ),
    ),
  ),
)

lines-give : TableGives IsCallable consumer_lines
unfolding consumer_lines object_lines change_lines work_lines pd_row unpd_row reg_row mr_row dereg_row mw_row unmw_row cq_row uncq_row srq_row unsrq_row qp_row unqp_row query_row init_row sqd_row resume_row error_row reset_row rtr_row rts_row post_row recv_row srecv_row poll_row wait_row store_row load_row inject_row at_row
lines-give = (
  λ x0 is0. record {},
  (
    λ x0 is0. record {},
    (
      λ x0 is0 x1 is1 x2 is2 x3 is3 x4 is4. record {},
      (
        λ x0 is0 x1 is1. record {},
        (
          λ x0 is0. record {},
          (
            λ x0 is0 x1 is1. record {},
            (
              λ x0 is0. record {},
              (
                λ x0 is0 x1 is1. record {},
                (
                  λ x0 is0. record {},
                  (
                    λ x0 is0 x1 is1. record {},
                    (
                      λ x0 is0. record {},
                      (
                        λ x0 is0 x1 is1 x2 is2 x3 is3 x4 is4 x5 is5. record {},
                        (
                          λ x0 is0. record {},
                          (
                            λ x0 is0. record {},
                            (
                              λ x0 is0. record {},
                              (
                                λ x0 is0. record {},
                                (
                                  λ x0 is0. record {},
                                  (
                                    λ x0 is0. record {},
                                    (
                                      λ x0 is0. record {},
                                      (
                                        λ x0 is0 x1 is1 x2 is2 x3 is3 x4 is4 x5 is5. record {},
                                        (
                                          λ x0 is0 x1 is1 x2 is2 x3 is3 x4 is4. record {},
                                          (
                                            λ s is id so f yes ws. one-of-gives HasFewPiecesOf IsCallable (read_table operations) _ (table-gives HasFewPiecesOf operations operations-give) (λ op few. few) ws,
                                            (
                                              λ x0 is0 x1 is1 list few. few,
                                              (
                                                λ x0 is0 x1 is1 list few. few,
                                                (
                                                  λ x0 is0 x1 is1. record {},
                                                  (
                                                    λ x0 is0 x1 is1. record {},
                                                    (
                                                      λ x0 is0 x1 is1 x2 is2. record {},
                                                      (
                                                        λ x0 is0 x1 is1 x2 is2. record {},
                                                        (
                                                          λ x0 is0 x1 is1. record {},
                                                          (
                                                            λ x0 is0. record {},
                                                            record {},
                                                          ),
                                                        ),
                                                      ),
                                                    ),
                                                  ),
                                                ),
                                              ),
                                            ),
                                          ),
                                        ),
                                      ),
                                    ),
                                  ),
                                ),
                              ),
                            ),
                          ),
                        ),
                      ),
                    ),
                  ),
                ),
              ),
            ),
          ),
        ),
      ),
    ),
  ),
)

-- ---- settings

-- what a setup line says is within the limits
abbrev IsLimitedSetting : Setting → Type 0
IsLimitedSetting (settings.Adapters n) = (1 ≤ n) × (n ≤ MAX_ADAPTERS)
IsLimitedSetting (settings.Buffer a n) = (1 ≤ n) × (n ≤ MAX_BUFFER_BYTES)
IsLimitedSetting (settings.Slots a c) =
    ((1 ≤ c.domains) × (c.domains ≤ MAX_DOMAINS)) × (c.regions ≤ MAX_REGIONS) × (c.windows ≤ MAX_WINDOWS) × (c.cqs ≤ MAX_CQS) × (c.srqs ≤ MAX_SRQS) × (c.qps ≤ MAX_QPS)
IsLimitedSetting (settings.Events n) = (1 ≤ n) × (n ≤ MAX_EVENTS)
IsLimitedSetting (settings.Seed seed) = Unit {0}
IsLimitedSetting (settings.Listed line) = Unit {0}

weather-gives : (last : ℕ) → TableGives IsLimitedSetting (weather_lines last)
unfolding weather_lines seed_row lose_row repeat_row hold_row hasten_row
weather-gives last =
    (λ s is. record {}, (λ q is i so. record {}, (λ q is i so k few. record {}, (λ q is i so k few. record {}, (λ q is t so. record {}, record {})))))

setup-gives : (last : ℕ) → TableGives IsLimitedSetting (setup_lines last)
unfolding setup_lines adapters_row buffer_row slots_row events_row
setup-gives last = (
  λ n few. few,
  (
    λ a is n few. few,
    (
      λ a is domains d regions r windows w cqs c srqs s qps q. (d, r.1, w.1, c.1, s.1, q.1),
      (
        λ n few. few,
        (
          one-of-gives IsLimitedSetting IsLimitedSetting (read_table (weather_lines last)) (λ s. s) (table-gives IsLimitedSetting (weather_lines last) (weather-gives last)) (λ s is. is),
          record {},
        ),
      ),
    ),
  ),
)

-- ---- what settings make

abbrev AreLimitedAdapters : List Adapter → Type 0
AreLimitedAdapters adapters = AllByRecursion IsLimitedAdapter adapters

plain-limited : IsLimitedAdapter plain_adapter
plain-limited = record {
  buffers = omega arith;
  least_bytes = record {};
  bytes = record {};
  least_domains = omega arith;
  domains = omega arith;
  regions = omega arith;
  windows = omega arith;
  cqs = omega arith;
  srqs = omega arith;
  qps = omega arith;
}

all-plain : (n : ℕ) → AreLimitedAdapters (replicate n plain_adapter)
all-plain zero = record {}
all-plain (suc n) = (plain-limited, all-plain n)

all-behind : (P : ℕ → Type 0) (ns : List ℕ) (n : ℕ) → AllByRecursion P ns → P n → AllByRecursion P (ns ++ n ∷ [])
all-behind P [] n all is = (is, record {})
all-behind P (m ∷ ns) n all is = (all.0, all-behind P ns n all.1 is)

buffer-limited : (k n : ℕ) (adapters : List Adapter) → (1 ≤ n) × (n ≤ MAX_BUFFER_BYTES) → has_buffer_left k adapters ≡ true → AreLimitedAdapters adapters → AreLimitedAdapters (with_adapter k (with_buffer n) adapters)
buffer-limited k n [] few room all = record {}
buffer-limited zero n (a ∷ rest) few room all = (
  record {
    buffers = grind (arith, nat_tests, room, length-append a.buffers (n ∷ []));
    least_bytes = all-behind (λ bytes. 1 ≤ bytes) a.buffers n all.0.least_bytes few.0;
    bytes = all-behind (λ bytes. bytes ≤ MAX_BUFFER_BYTES) a.buffers n all.0.bytes few.1;
    least_domains = all.0.least_domains;
    domains = all.0.domains;
    regions = all.0.regions;
    windows = all.0.windows;
    cqs = all.0.cqs;
    srqs = all.0.srqs;
    qps = all.0.qps;
  },
  all.1,
)
buffer-limited (suc k) n (a ∷ rest) few room all = (all.0, buffer-limited k n rest few room all.1)

slots-limited : (k : ℕ) (c : SlotCounts) (adapters : List Adapter) → IsLimitedSetting (settings.Slots k c) → AreLimitedAdapters adapters → AreLimitedAdapters (with_adapter k (with_slots c) adapters)
slots-limited k c [] few all = record {}
slots-limited zero c (a ∷ rest) few all = (
  record {
    buffers = all.0.buffers;
    least_bytes = all.0.least_bytes;
    bytes = all.0.bytes;
    least_domains = few.0.0;
    domains = few.0.1;
    regions = few.1;
    windows = few.2;
    cqs = few.3;
    srqs = few.4;
    qps = few.5;
  },
  all.1,
)
slots-limited (suc k) c (a ∷ rest) few all = (all.0, slots-limited k c rest few all.1)

as-many : (k : ℕ) (change : Adapter → Adapter) (adapters : List Adapter) → length (with_adapter k change adapters) ≡ length adapters
as-many k change [] = refl
as-many zero change (a ∷ rest) = refl
as-many (suc k) change (a ∷ rest) = ap suc (as-many k change rest)

-- what the setup lines so far say is within the limits
abbrev IsLimitedSetup : Setup → Type 0
IsLimitedSetup s = AreLimited (record { adapters = s.adapters; events = s.events })

-- within the limits of each adapter, and of events
record IsLimitedInPart (s : Setup) : Type 0 where
  count : (1 ≤ length s.adapters) × (length s.adapters ≤ MAX_ADAPTERS)
  adapters : AreLimitedAdapters s.adapters
  events : (1 ≤ s.events) × (s.events ≤ MAX_EVENTS)

setting-limited : (setting : Setting) (s : Setup) → IsLimitedSetting setting → IsLimitedSetup s → has_room_for setting s ≡ true → IsLimitedInPart (after_setting setting s)
setting-limited (settings.Adapters n) s few limited room = record {
  count = subst (λ k. (1 ≤ k) × (k ≤ MAX_ADAPTERS)) (sym (length-replicate n plain_adapter)) few;
  adapters = all-plain n;
  events = (limited.least_events, limited.events);
}
setting-limited (settings.Buffer a n) s few limited room = record {
  count = subst (λ k. (1 ≤ k) × (k ≤ MAX_ADAPTERS)) (sym (as-many a (with_buffer n) s.adapters)) (limited.least_count, limited.count);
  adapters = buffer-limited a n s.adapters few room limited.adapters;
  events = (limited.least_events, limited.events);
}
setting-limited (settings.Slots a c) s few limited room = record {
  count = subst (λ k. (1 ≤ k) × (k ≤ MAX_ADAPTERS)) (sym (as-many a (with_slots c) s.adapters)) (limited.least_count, limited.count);
  adapters = slots-limited a c s.adapters few limited.adapters;
  events = (limited.least_events, limited.events);
}
setting-limited (settings.Events n) s few limited room = record { count = (limited.least_count, limited.count); adapters = limited.adapters; events = few }
setting-limited (settings.Seed seed) s few limited room = record { count = (limited.least_count, limited.count); adapters = limited.adapters; events = (limited.least_events, limited.events) }
setting-limited (settings.Listed line) s few limited room = record { count = (limited.least_count, limited.count); adapters = limited.adapters; events = (limited.least_events, limited.events) }

whole-limited : (s : Setup) → IsLimitedInPart s → is_within_limits s ≡ true → IsLimitedSetup s
unfolding is_within_limits
whole-limited s part within = record {
  least_count = part.count.0;
  count = part.count.1;
  adapters = part.adapters;
  bytes = grind (arith, nat_tests, within);
  parts = grind (arith, nat_tests, within);
  least_events = part.events.0;
  events = part.events.1;
}

after-setting-gives : (setting : Setting) (s : Setup) → IsLimitedSetting setting → IsLimitedSetup s → Gives IsLimitedSetup (within_limits (has_room_for setting s) (after_setting setting s))
after-setting-gives setting s few limited = by (has_room_for setting s) (is_within_limits (after_setting setting s)) refl refl
  where
    by : (room within : Bool) → has_room_for setting s ≡ room → is_within_limits (after_setting setting s) ≡ within
        → Gives IsLimitedSetup (if room && within then Ok (after_setting setting s) else Err causes.OutOfLimit)
    by true true room within = whole-limited (after_setting setting s) (setting-limited setting s few limited room) within
    by true false room within = record {}
    by false within room so = record {}

setup-line-gives : (s : Setup) (ws : Words) → IsLimitedSetup s → Gives IsLimitedSetup (after_setup_line s ws)
unfolding after_setup_line
setup-line-gives s ws limited = gives-if IsLimitedSetup (is_late s ws) (Err causes.SetupLate) _ (record {})
    (gives-then IsLimitedSetting IsLimitedSetup (whole (read_table (setup_lines (length s.adapters - 1)) ws)) _
    (whole-gives IsLimitedSetting (read_table (setup_lines (length s.adapters - 1)) ws) (table-gives IsLimitedSetting (setup_lines (length s.adapters - 1)) (setup-gives (length s.adapters - 1)) ws))
    (λ setting few. after-setting-gives setting s few limited))

-- ---- all lines

behind-callable : (lines : List Line) (line : Line) → AllByRecursion (λ l. IsCallable l.what) lines → IsCallable line.what → AllByRecursion (λ l. IsCallable l.what) (lines ++ line ∷ [])
behind-callable [] line all can = (can, record {})
behind-callable (l ∷ lines) line all can = (all.0, behind-callable lines line all.1 can)

with-line-callable : (k : ℕ) (line : Line) (consumers : List (List Line)) → AreCallable consumers → IsCallable line.what → AreCallable (with_line k line consumers)
with-line-callable zero line [] all can = ((can, record {}), record {})
with-line-callable zero line (c ∷ cs) all can = (behind-callable c line all.0 can, all.1)
with-line-callable (suc k) line [] all can = (record {}, with-line-callable k line [] (record {}) can)
with-line-callable (suc k) line (c ∷ cs) all can = (all.0, with-line-callable k line cs all.1 can)

abbrev IsGood : Draft → Type 0
IsGood d = IsLimitedSetup d.setup × AreCallable d.consumers

words-give : (number : ℕ) (d : Draft) (ws : Words) → IsGood d → Gives IsGood (after_words number d ws)
unfolding after_words
words-give number d [] good = good
words-give number d (name ∷ ws) good = gives-if IsGood (is_consumer name) _ _
    (gives-then (λ k. Unit {0}) IsGood (limited 0 (MAX_CONSUMERS - 1) (drop 1 name)) _ (gives-any (limited 0 (MAX_CONSUMERS - 1) (drop 1 name))) (λ k is.
    gives-then IsCallable IsGood (whole (read_table consumer_lines ws)) _ (whole-gives IsCallable (read_table consumer_lines ws) (table-gives IsCallable consumer_lines lines-give ws))
    (λ what can. (good.0, with-line-callable k (record { number = number; what = what }) d.consumers good.1 can))))
    (gives-if IsGood (not (is_setup_word name)) _ _ (record {})
    (gives-if IsGood (not (length d.consumers == 0)) _ _ (record {})
    (gives-then IsLimitedSetup IsGood (after_setup_line d.setup (name ∷ ws)) _ (setup-line-gives d.setup (name ∷ ws) good.0) (λ setup limited. (limited, good.1)))))

line-gives : (number : ℕ) (d : Draft) (line : List ℕ) → IsGood d → Gives IsGood (after_line number d line)
unfolding after_line
line-gives number d line good = gives-if IsGood (not (list_all is_text line)) _ _ (record {})
    (gives-if IsGood (is_comment line) _ _ good (words-give number d (words_of line) good))

all-give : (number room : ℕ) (d : Draft) (lines : List (List ℕ)) → IsGood d → Gives IsGood (after_lines number room d lines)
all-give number room d [] good = good
all-give number room d (line ∷ lines) good = gives-if IsGood (nat_lt room (size_of line lines)) _ _ (record {})
    (by (λ after is. all-give (number + 1) (room - size_of line lines) after lines is) (after_line number d line) (line-gives number d line good))
  where
    by : ((after : Draft) → IsGood after → Gives IsGood (after_lines (number + 1) (room - size_of line lines) after lines)) → (r : Result Draft ScriptCause) → Gives IsGood r
        → Gives IsGood (refused_at number r (λ after. after_lines (number + 1) (room - size_of line lines) after lines))
    by rest (Ok after) is = rest after is
    by rest (Err cause) is = record {}

opening-limited : IsLimitedSetup opening
opening-limited = record {
  least_count = omega arith;
  count = omega arith;
  adapters = (plain-limited, record {});
  bytes = omega arith;
  parts = omega arith;
  least_events = omega arith;
  events = omega arith;
}

-- what a script's text gives
abbrev IsLimitedScript : ScriptValue → Type 0
IsLimitedScript s = AreLimited s.config × AreCallable s.consumers

script-gives : (text : List ℕ) → Gives IsLimitedScript (script_of text)
unfolding script_of
script-gives text = by (after_lines 1 MAX_SCRIPT_BYTES opened (pieces 10 text)) (all-give 1 MAX_SCRIPT_BYTES opened (pieces 10 text) (opening-limited, record {}))
  where
    opened : Draft
    opened = record { setup = opening; consumers = [] }

    by : (r : Result Draft (ℕ × ScriptCause)) → Gives IsGood r → Gives IsLimitedScript (finished r)
    by (Ok d) good = good
    by (Err refusal) good = record {}

pub text-limited : (text : List ℕ) (s : ScriptValue) → script_of text ≡ Ok s → AreLimited s.config
text-limited text s reads = (subst (Gives IsLimitedScript) reads (script-gives text)).0

pub text-callable : (text : List ℕ) (s : ScriptValue) → script_of text ≡ Ok s → AreCallable s.consumers
text-callable text s reads = (subst (Gives IsLimitedScript) reads (script-gives text)).1

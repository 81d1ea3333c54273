-- The promises of the public calls, in full, and demand 3. Who reads this file has read what is promised; each is proved elsewhere, under the name that is cited, and
-- a contract in the code that said less, or required anything, would not be the one that stands here.
--
-- `at` has the arguments as they are handed over, in the order of the call's parameters, and `end` as they are at exit: `.0` is the first, `.1 .0` the second,
-- `.1 .1 .0` the third, and so on. The arrays are lent in the order of tokens (offsets, words), nodes (heads, loads), symbols, errors (places, reasons).
use Rattle.std.specs.Prelude.{◌≡◌}
use Rattle.sifc_promises.specs.Promised.{Promised}
use Rattle.sifc_tokens.specs.Tokens.{tokens_called, tokens_call, answer_of}
use Rattle.sifc_tokens.specs.contracts.tokens as tokens-call
use Rattle.sifc_tokens.proofs.tokens.Symbol as tokens-symbol
use Rattle.sifc_tokens.proofs.tokens.Met as tokens-met
use Rattle.sifc_def.specs.Read.{called, reading as reading_of, text_call}
use Rattle.sifc_def.specs.Canon.Demand.{FlagDown}
use Rattle.sifc_lent.specs.Parts.{arrays, arrays_of, KeptLent}
use Rattle.sifc_read.specs.contracts.reading as reading-call
use Rattle.sifc_read.proofs.reading.Symbol as reading-symbol
use Rattle.sifc_read.proofs.reading.Met as reading-met
use Rattle.sifc_records.specs.Records.{recorded, reading_records}
use Rattle.sifc_records.specs.contracts.reading_records as records-call
use Rattle.sifc_records.proofs.reading_records.Symbol as records-symbol
use Rattle.sifc_records.proofs.reading_records.Met as records-met
use Rattle.sifc_text.specs.Demand3.{ReadingPromise, TextPromise, Ran, AllFit, Demand3, demand3-calls}
use Rattle.sifc_text.specs.contracts.text as text-call
use Rattle.sifc_text.proofs.text.Symbol as text-symbol
use Rattle.sifc_text.proofs.text.Met as text-met
use Rattle.sifc_told.specs.Hosts.{answer, early_numbers, read_answer, told, text_answer, text_told, told_text}
use Rattle.sifc_deepest.specs.Deepest.{deepest_called, deepest_call, deepest_answer, deepest_told, told_deepest}
use Rattle.sifc_deepest.specs.contracts.deepest as deepest-call
use Rattle.sifc_deepest.proofs.deepest.Symbol as deepest-symbol
use Rattle.sifc_deepest.proofs.deepest.Met as deepest-met
use Rattle.sifc_value.specs.Value.{value_of, told as told_in, told_value}
use Rattle.sifc_value.specs.contracts.value as value-call
use Rattle.sifc_value.proofs.value.Symbol as value-symbol
use Rattle.sifc_value.proofs.value.Met as value-met
use Rattle.sif_c.specs.contracts.sif_tokens as sif-tokens-call
use Rattle.sif_c.proofs.sif_tokens.Symbol as sif-tokens-symbol
use Rattle.sif_c.proofs.sif_tokens.Met as sif-tokens-met
use Rattle.sif_c.specs.contracts.sif_reading as sif-reading-call
use Rattle.sif_c.proofs.sif_reading.Symbol as sif-reading-symbol
use Rattle.sif_c.proofs.sif_reading.Met as sif-reading-met
use Rattle.sif_c.specs.contracts.sif_text as sif-text-call
use Rattle.sif_c.proofs.sif_text.Symbol as sif-text-symbol
use Rattle.sif_c.proofs.sif_text.Met as sif-text-met
use Rattle.sif_c.specs.contracts.sif_deepest as sif-deepest-call
use Rattle.sif_c.proofs.sif_deepest.Symbol as sif-deepest-symbol
use Rattle.sif_c.proofs.sif_deepest.Met as sif-deepest-met
use Rattle.sif_c.specs.contracts.sif_value as sif-value-call
use Rattle.sif_c.proofs.sif_value.Symbol as sif-value-symbol
use Rattle.sif_c.proofs.sif_value.Met as sif-value-met

module _ {M : Type 1} where
  -- The tokens call: answer and both arrays at exit are `tokens_call` of the script and the arrays at entry.
  pub tokens : Promised M tokens-call.ended tokens-symbol.code tokens-symbol.name λ κs at r end.
      tokens_called (answer_of r) end.1.0.now end.1.1.0.now
      ≡ tokens_call at.0.now at.1.0.now at.1.1.0.now
  tokens = tokens-met.met

  -- The reading call: what is lent is the same memory afterwards, and answer and the seven arrays at exit are `reading` of the script and the arrays at entry. Demand 3
  -- takes a call that ran with this very promise.
  pub reading : Promised M reading-call.ended reading-symbol.code reading-symbol.name λ κs at r end.
      KeptLent at.1.0.now end.1.0.now × ReadingPromise at.0.now (arrays_of at.1.0.now) r (arrays_of end.1.0.now)
  reading = reading-met.met

  -- The reading call over a slice of error records: the same of what is lent, and answer, the seven arrays and every record at exit are `reading_records` of the
  -- script, the arrays and the records at entry.
  pub reading-records : Promised M records-call.ended records-symbol.code records-symbol.name λ κs at r end.
      KeptLent at.1.0.now end.1.0.now × (recorded r (arrays_of end.1.0.now) end.1.1.0.now ≡ reading_records at.0.now (arrays_of at.1.0.now) at.1.1.0.now)
  reading-records = records-met.met

  -- The text call: the same of what is lent, and answer, the seven arrays and the buffer at exit are `text_call` of the script, the arrays and the buffer at entry.
  -- Demand 3 takes a call that ran with this very promise.
  pub text : Promised M text-call.ended text-symbol.code text-symbol.name λ κs at r end.
      KeptLent at.1.0.now end.1.0.now × TextPromise at.0.now (arrays_of at.1.0.now) at.1.1.0.now r (arrays_of end.1.0.now) end.1.1.0.now
  text = text-met.met

  -- The tokens call that hosts link: the same in numbers.
  pub sif-tokens : Promised M sif-tokens-call.ended sif-tokens-symbol.code sif-tokens-symbol.name λ κs at r end.
      let n = end.1.1.1 in
      tokens_called (answer n.0.now r n.1.0.now n.1.1.0.now) end.1.0.now end.1.1.0.now
      ≡ tokens_call at.0.now at.1.0.now at.1.1.0.now
  sif-tokens = sif-tokens-met.met

  -- The reading call that hosts link: the numbers are tokens, nodes, errors, flag; line, column, reason number, offset and value of the error that ended the reading;
  -- and, with the result, the refusal's number, kind and offset.
  pub sif-reading : Promised M sif-reading-call.ended sif-reading-symbol.code sif-reading-symbol.name λ κs at r end.
      let a = at.1 in
      let b = a.1.1.1 in
      let e = end.1 in
      let f = e.1.1.1 in
      let n = f.1.1.1.1 in
      let y = n.1.1.1.1 in
      let z = y.1.1.1.1.1 in
      called
      (read_answer n.0.now n.1.0.now n.1.1.0.now n.1.1.1.0.now
      (early_numbers y.0.now y.1.0.now y.1.1.0.now y.1.1.1.0.now y.1.1.1.1.0.now)
      r z.0.now z.1.0.now)
      (arrays e.0.now e.1.0.now e.1.1.0.now f.0.now f.1.0.now f.1.1.0.now f.1.1.1.0.now)
      ≡ told
      (reading_of at.0.now
      (arrays a.0.now a.1.0.now a.1.1.0.now b.0.now b.1.0.now b.1.1.0.now b.1.1.1.0.now))
  sif-reading = sif-reading-met.met

  -- The text call that hosts link: the numbers are the count and, with the result, the refusal's number, kind and offset.
  pub sif-text : Promised M sif-text-call.ended sif-text-symbol.code sif-text-symbol.name λ κs at r end.
      let a = at.1 in
      let b = a.1.1.1 in
      let e = end.1 in
      let f = e.1.1.1 in
      let n = f.1.1.1.1.1 in
      text_told (text_answer n.0.now r n.1.0.now n.1.1.0.now)
      (arrays e.0.now e.1.0.now e.1.1.0.now f.0.now f.1.0.now f.1.1.0.now f.1.1.1.0.now)
      f.1.1.1.1.0.now
      ≡ told_text
      (text_call at.0.now
      (arrays a.0.now a.1.0.now a.1.1.0.now b.0.now b.1.0.now b.1.1.0.now b.1.1.1.0.now)
      b.1.1.1.1.0.now)
  sif-text = sif-text-met.met

  -- The deepest script of a length, which is the first argument: answer and buffer at exit are `deepest_call` of the length and the buffer at entry.
  pub deepest : Promised M deepest-call.ended deepest-symbol.code deepest-symbol.name λ κs at r end.
      deepest_called r end.1.0.now ≡ deepest_call at.0 at.1.0.now
  deepest = deepest-met.met

  -- The same for hosts: the numbers are the depth and, as the result, the refusal's number.
  pub sif-deepest : Promised M sif-deepest-call.ended sif-deepest-symbol.code sif-deepest-symbol.name λ κs at r end.
      deepest_told (deepest_answer end.1.1.0.now r) end.1.0.now ≡ told_deepest (deepest_call at.0 at.1.0.now)
  sif-deepest = sif-deepest-met.met

  -- The value of a number literal: the answer is `value_of` of its bytes.
  pub value : Promised M value-call.ended value-symbol.code value-symbol.name λ κs at r end. r ≡ value_of at.0.now
  value = value-met.met

  -- The same for hosts: the refusal's number as the result, and the value.
  pub sif-value : Promised M sif-value-call.ended sif-value-symbol.code sif-value-symbol.name λ κs at r end. told_in r end.1.0.now ≡ told_value (value_of at.0.now)
  sif-value = sif-value-met.met

-- Demand 3, of any eight calls that ran: two scripts, their readings and text calls, and the readings and text calls of their canonical texts.
pub demand3 : (x y : Ran) → FlagDown x.reads.answer → FlagDown y.reads.answer → AllFit x → AllFit y → Demand3 x y
demand3 = demand3-calls

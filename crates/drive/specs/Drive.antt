-- A list of calls from C on the saved bytes. Definitions only; assumes nothing.
use Rattle.std.specs.Prelude.{List, [], ◌∷◌, ℕ}
use Rattle.handset.specs.Calls.{estimate_number, preview_number, read_number, rest_call, window_call, write_call}
use Rattle.saved.specs.Call.{call_bytes, call_number}
use Rattle.history.specs.Call.{Call, estimate, preview, read, rest, window, write}

-- the number that a call from C yields
unfoldable pub called_number : Call → List ℕ → ℕ
called_number (window a v t) saved = call_number saved (window_call a v t)
called_number (rest n t) saved = call_number saved (rest_call n t)
called_number (write address value) saved = call_number saved (write_call address value.number)
called_number (read address count place reply_length) saved = read_number saved address count place reply_length
called_number (preview key reply_length) saved = preview_number saved key.number reply_length
called_number (estimate v) saved = estimate_number saved v

-- the saved bytes that it leaves; a read, a preview and an estimate are lent them to look at alone
unfoldable pub called_bytes : Call → List ℕ → List ℕ
called_bytes (window a v t) saved = call_bytes saved (window_call a v t)
called_bytes (rest n t) saved = call_bytes saved (rest_call n t)
called_bytes (write address value) saved = call_bytes saved (write_call address value.number)
called_bytes (read address count place reply_length) saved = saved
called_bytes (preview key reply_length) saved = saved
called_bytes (estimate v) saved = saved

unfoldable pub bytes_after : List Call → List ℕ → List ℕ
bytes_after [] saved = saved
bytes_after (call ∷ calls) saved = bytes_after calls (called_bytes call saved)

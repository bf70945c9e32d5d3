-- The line of an event: of text, or an object of JSON (RFC 8259).
use Rattle.std.specs.Prelude.{ℕ, List, ◌++◌, map, codes, decimal}
use Rattle.std.specs.List.{concat}
use Rattle.serde_json.specs.Data.{string}
use Rattle.serde_json.specs.Written.{compact_text}
use Rattle.event_log.specs.declared.line.Level.{Level}
use Rattle.event_log.specs.declared.line.Level.TheVariants as level_is
use Rattle.event_log.specs.declared.line.FieldValue.{FieldValue}
use Rattle.event_log.specs.declared.line.FieldValue.TheVariants as value_is
use Rattle.event_log.specs.declared.line.LogField.{LogField}

-- the word of a level in a line of text
abbrev pub level_word : Level → List ℕ
level_word level_is.Info = codes "INFO"
level_word level_is.Warning = codes "WARN"
level_word level_is.Error = codes "ERROR"

-- and in a line of JSON
abbrev pub level_name : Level → List ℕ
level_name level_is.Info = codes "info"
level_name level_is.Warning = codes "warn"
level_name level_is.Error = codes "error"

-- a text as a string of JSON
abbrev pub quoted : List ℕ → List ℕ
quoted text = compact_text (string text)

-- what is told of an event
abbrev pub value_text : FieldValue → List ℕ
value_text (value_is.Number number) = decimal number
value_text (value_is.Text text) = quoted text.now

-- a field in a line of text, and in one of JSON
abbrev pub text_field : LogField → List ℕ
text_field field = codes " " ++ (field.name.now ++ (codes "=" ++ value_text field.value))

abbrev pub json_field : LogField → List ℕ
json_field field = codes ",\"" ++ (field.name.now ++ (codes "\":" ++ value_text field.value))

abbrev pub text_fields : List LogField → List ℕ
text_fields fields = concat (map text_field fields)

abbrev pub json_fields : List LogField → List ℕ
json_fields fields = concat (map json_field fields)

-- the line of an event: its time, its level, its name and its fields
abbrev pub text_line : (time : List ℕ) → Level → (event : List ℕ) → List LogField → List ℕ
text_line time level event fields = time ++ (codes " " ++ (level_word level ++ (codes " " ++ (event ++ (text_fields fields ++ codes "\n")))))

-- the same as an object of JSON
abbrev pub json_line : (time : List ℕ) → Level → (event : List ℕ) → List LogField → List ℕ
json_line time level event fields =
    codes "{\"time\":\"" ++ (time ++ (codes "\",\"level\":\"" ++ (level_name level ++ (codes "\",\"event\":\"" ++ (event ++ (codes "\"" ++ (json_fields fields ++ codes "}\n")))))))

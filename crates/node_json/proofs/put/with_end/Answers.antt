use Rattle.std.proofs.Common.{ap, sym, subst, ◌∙◌, ◌++◌, codes, IsUtf8}
use Rattle.json.specs.Json.{document}
use Rattle.json.specs.Layout.{pretty}
use Rattle.node_json.proofs.Tokens.{reads_of}
use Rattle.node_json.proofs.put.with_end.Goals as goal

pub returns : goal.returns
returns c = λ value e shallow.
    let layout = c.into_inner-text.ensures.layout ∙ ap pretty e in
    record {
      whole = c.in_ok-push.ensures.items ∙ ap (λ t. t ++ codes "\n") layout;
      utf8 = subst IsUtf8 layout c.into_inner-text.ensures.utf8;
      reads = ap document (sym layout) ∙ reads_of value c.into_inner-text.result.items (c.into_inner-text.ensures.value ∙ e) shallow;
    }

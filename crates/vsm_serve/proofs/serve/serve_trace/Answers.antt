use Rattle.vsm_serve.proofs.serve.serve_trace.Goals as goal

pub returns-in-Err-Refused-clause-says : goal.returns-in-Err-Refused-clause-says
returns-in-Err-Refused-clause-says g c =
    let said = rw c.in-Err-Refused.field-0-is at c.in-Err-Refused.ensures.said in
    record {
      bytes = c.in-Ok.bytes.items;
      read = c.in-Ok.ensures.whole;
      refusal = c.in-Err-Refused.refusal;
      refused = rw (← c.as_slice.ensures.value) said;
      result = c.put_refusal.result;
      put = rw c.in-Err-Refused.refusal-is at c.put_refusal.ensures;
    }

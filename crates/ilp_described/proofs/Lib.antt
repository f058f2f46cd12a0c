mod PrintableText
